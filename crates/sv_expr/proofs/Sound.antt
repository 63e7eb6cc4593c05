-- What is read is in the grammar.
use Rattle.std.proofs.Common.{◌≡◌, ◌≢◌, ℕ, zero, suc, Bool, true, false, List, refl, sym, ◌∙◌, subst}
use Rattle.std.specs.Prelude.{Option, Some, None, Ok}
use Rattle.sv_ast.specs.declared.operators.AssignOp.{AssignOp}
use Rattle.sv_ast.specs.declared.script_tree.Body.{Body}
use Rattle.sv_ast.specs.declared.script_tree.Expr.{Expr}
use Rattle.sv_ast.specs.declared.script_tree.Stmt.{Stmt}
use Rattle.sv_lex.specs.declared.lexeme.Lexeme.{Lexeme}
use Rattle.sv_lex.specs.declared.lexeme.Lexeme.TheVariants as k
use Rattle.sv_lex.specs.Look.{same_lexeme}
use Rattle.sv_lex.specs.Reader.{Input, Parser, and_then, sees, next, start}
use Rattle.sv_lex.proofs.Sees.{same, other}
use Rattle.sv_lex.proofs.Steps.{Holds, holds_then, holds_weaker, holds_if, holds_choice, holds_expect}
use Rattle.sv_expr.specs.declared.form.Form.{Form}
use Rattle.sv_expr.specs.declared.form.Form.TheVariants.{Operand, Whole, Bracketed}
use Rattle.sv_expr.specs.Ahead.{begins_arrow}
use Rattle.sv_expr.specs.Grammar as g
use Rattle.sv_expr.specs.Laws.{Sound, IsNested}
use Rattle.sv_expr.specs.Limits.{Limits}
use Rattle.sv_expr.specs.Lists.{parameters}
use Rattle.sv_expr.specs.Operators.{assigns}
use Rattle.sv_expr.specs.Quotients.{is_quotient}
use Rattle.sv_expr.specs.Rules as r
use Rattle.sv_expr.specs.Rules.{Readers, undivided, target, prefix, logical, choice, condition, assignment, body, arrow, whole, level}
use Rattle.sv_expr.proofs.Arrows.{no_arrow, no_assignment, assigns_behind}
use Rattle.sv_expr.proofs.SoundLists.{holds_self, parameters_holds}
use Rattle.sv_expr.proofs.SoundLeaves.{Holding, holds_inside, target_holds}
use Rattle.sv_expr.proofs.SoundSuffixes.{prefix_holds}
use Rattle.sv_expr.proofs.SoundOperators.{logical_holds}

module _ (limits : Limits) (readers : ℕ → Readers) (d : ℕ) (below : Holding limits readers d) where
  abbrev block : ℕ → Parser (List Stmt)
  block n = (readers n).block

  abbrev Full : Input → Expr → Input → Type 0
  Full = g.Full limits block d

  inner : {B : Type 0} (Q : B → Input → Type 0) (form : Form) (i : Input) (f : Expr → Parser B)
      → ((x : Expr) (j : Input) → g.Inside limits block d form i x j → Holds Q (f x j)) → Holds Q (and_then ((readers d).inside form i) f)
  inner = holds_inside limits readers d below

  abbrev Cond : Input → Expr → Input → Type 0
  Cond = g.Cond limits block d

  choice_holds : (test : Expr) (i j : Input) → g.Logical limits block d i test j → sees j ≡ k.Question → Holds (Cond i) (choice limits d (readers d) (start i) test j)
  unfolding choice
  choice_holds test i j h s = holds_choice (Cond i) (is_quotient test) _ _ j (λ q. tt)
      (λ q. inner (Cond i) Whole (next j) _ (λ x m hx. holds_expect (Cond i) k.Colon m _ (λ c. inner (Cond i) Whole (next m) _ (λ y o hy. g.choice h s q hx c hy))))

  condition_holds : (i : Input) → Holds (Cond i) (condition limits d (readers d) i)
  unfolding condition
  condition_holds i = holds_then (g.Logical limits block d i) (Cond i) (logical limits d (readers d) i) _ (logical_holds limits readers d below i)
      (λ test j h. holds_choice (Cond i) (same_lexeme (sees j) k.Question) _ _ j
      (λ s. choice_holds test i j h (same (sees j) k.Question s))
      (λ s. g.only_test h (other (sees j) k.Question s)))

  assignment_holds : (op : AssignOp) (i : Input) → assigns i ≡ Some op → Holds (Full i) (assignment limits d (readers d) op i)
  unfolding assignment
  assignment_holds op i h = holds_then (g.Target i) (Full i) (target i) _ (target_holds i)
      (λ ref j t. inner (Full i) Whole (next j) _ (λ x o hx. g.is_assignment t (assigns_behind h t) hx))

  abbrev ArrowBody : Input → Body → Input → Type 0
  ArrowBody = g.ArrowBody limits block d

  body_holds : (i : Input) → Holds (ArrowBody i) (body limits d (readers d) i)
  unfolding body
  body_holds i = by (same_lexeme (sees i) k.LBrace) refl
    where
      block_holds : sees i ≡ k.LBrace → Holds (ArrowBody i) (r.body_by limits d (readers d) k.LBrace i)
      block_holds s = holds_then (λ found o. block d i ≡ Ok (found, o)) (ArrowBody i) (block d i) _ (holds_self (block d i)) (λ found o e. g.body_block s e)

      value_holds : (l : Lexeme) → sees i ≡ l → l ≢ k.LBrace → Holds (ArrowBody i) (r.body_by limits d (readers d) l i)
      value_holds k.LBrace e n = absurd (n refl)
      value_holds _ e n = inner (ArrowBody i) Whole i _ (λ x o hx. g.body_value (λ s. n (sym e ∙ s)) hx)

      by : (b : Bool) → same_lexeme (sees i) k.LBrace ≡ b → Holds (ArrowBody i) (r.body_by limits d (readers d) (sees i) i)
      by true s = let e = same (sees i) k.LBrace s in subst (λ l. Holds (ArrowBody i) (r.body_by limits d (readers d) l i)) (sym e) (block_holds e)
      by false s = value_holds (sees i) refl (other (sees i) k.LBrace s)

  arrow_holds : (i : Input) → Holds (Full i) (arrow limits d (readers d) i)
  unfolding arrow
  arrow_holds i = holds_then (g.Params i) (Full i) (parameters i) _ (parameters_holds i)
      (λ params j p. holds_expect (Full i) k.Arrow j _ (λ a. holds_then (ArrowBody (next j)) (Full i) (body limits d (readers d) (next j)) _ (body_holds (next j))
      (λ found o b. g.is_arrow p a b)))

  whole_holds : (i : Input) → Holds (Full i) (whole limits d (readers d) i)
  unfolding whole
  whole_holds i = holds_if (Full i) (begins_arrow i.text) _ _ (λ _. arrow_holds i) (λ none. by none (assigns i) refl)
    where
      by : begins_arrow i.text ≡ false → (o : Option AssignOp) → assigns i ≡ o → Holds (Full i) (r.whole_by limits d (readers d) o i)
      by none None h = holds_weaker (Cond i) (Full i) _ (λ t o c. g.is_condition (no_arrow i none) (no_assignment i h) c) (condition_holds i)
      by none (Some op) h = assignment_holds op i h

  undivided_holds : (Q : Expr → Input → Type 0) (x : Expr) (i : Input) → (is_quotient x ≡ false → Q x i) → Holds Q (undivided x i)
  undivided_holds Q x i h = holds_choice Q (is_quotient x) _ _ i (λ q. tt) h

  level_holds : (form : Form) (i : Input) → Holds (g.Inside limits block (suc d) form i) (level limits d (readers d) form i)
  unfolding level
  level_holds Operand i =
      let Q = g.Inside limits block (suc d) Operand i in
      holds_then (g.Prefix limits block d i) Q (prefix limits d (readers d) i) undivided (prefix_holds limits readers d below i)
      (λ t o h. undivided_holds Q t o (λ q. g.inside_operand h q))
  level_holds Whole i =
      let Q = g.Inside limits block (suc d) Whole i in
      holds_then (Full i) Q (whole limits d (readers d) i) undivided (whole_holds i) (λ t o h. undivided_holds Q t o (λ q. g.inside_whole h q))
  level_holds Bracketed i = holds_weaker (Full i) (g.Inside limits block (suc d) Bracketed i) _ (λ t o h. g.inside_bracketed h) (whole_holds i)

inside_holds : (limits : Limits) (readers : ℕ → Readers) → IsNested limits readers → (d : ℕ) → Holding limits readers d
inside_holds limits readers is zero form i = subst (Holds (g.Inside limits (λ n. (readers n).block) zero form i)) (sym (is.none form i)) tt
inside_holds limits readers is (suc d) form i =
    subst (Holds (g.Inside limits (λ n. (readers n).block) (suc d) form i)) (sym (is.some d form i)) (level_holds limits readers d (inside_holds limits readers is d) form i)

pub sound : Sound
sound limits readers is d form i o t h = subst (Holds (g.Inside limits (λ n. (readers n).block) d form i)) h (inside_holds limits readers is d form i)
