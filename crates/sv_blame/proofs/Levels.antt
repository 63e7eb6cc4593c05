-- Expressions tell: conditions, assignments and arrows.
use Rattle.std.proofs.Common.{◌≡◌, ◌≤◌, ℕ, true, refl, ap, subst, arith}
use Rattle.std.specs.Prelude.{Option, Some, None}
use Rattle.sv_ast.specs.declared.operators.AssignOp.{AssignOp}
use Rattle.sv_ast.specs.declared.refusals.Refused.{Refused}
use Rattle.sv_ast.specs.declared.script_tree.Expr.{Expr}
use Rattle.sv_lex.specs.declared.lexeme.Lexeme.{Lexeme}
use Rattle.sv_lex.specs.declared.lexeme.Lexeme.TheVariants as k
use Rattle.sv_lex.specs.Look.{same_lexeme}
use Rattle.sv_lex.specs.Reader.{Input, Outcome, Parser, and_then, sees, next, start}
use Rattle.sv_lex.proofs.Sees.{same}
use Rattle.sv_lex.proofs.Steps.{Holds}
use Rattle.sv_expr.specs.declared.form.Form.{Form}
use Rattle.sv_expr.specs.declared.form.Form.TheVariants.{Operand, Whole, Bracketed}
use Rattle.sv_expr.specs.Ahead.{begins_arrow}
use Rattle.sv_expr.specs.Grammar as g
use Rattle.sv_expr.specs.Limits.{Limits}
use Rattle.sv_expr.specs.Lists.{parameters}
use Rattle.sv_expr.specs.Operators.{assign_op, assigns}
use Rattle.sv_expr.specs.Quotients.{is_quotient}
use Rattle.sv_expr.specs.Rules as r
use Rattle.sv_expr.specs.Rules.{Readers, undivided, target, prefix, logical, choice, condition, assignment, body, arrow, whole, level}
use Rattle.sv_expr.proofs.Arrows.{assigns_behind}
use Rattle.sv_expr.proofs.SoundLeaves.{target_holds}
use Rattle.sv_blame.proofs.Frame.{is_sign, Any, Tells, IsFrame, next-up, tells_from, tells_then, tells_known, tells_choice, tells_if, tells_expect, goes, stops, Since, since_on, since_start}
use Rattle.sv_blame.proofs.Names.{target_tells, parameters_tells}
use Rattle.sv_blame.proofs.Leaves.{Fine, Reads, fine_at, inner}
use Rattle.sv_blame.proofs.Suffixes.{prefix_tells}
use Rattle.sv_blame.proofs.Operators.{logical_tells}

assign_sign : (l : Lexeme) (op : AssignOp) → assign_op l ≡ Some op → is_sign l ≡ true
assign_sign k.Equal op h = refl
assign_sign k.PlusEqual op h = refl
assign_sign k.MinusEqual op h = refl
assign_sign k.StarEqual op h = refl
assign_sign k.PercentEqual op h = refl
assign_sign _ op h = absurd (cc)

module _ {At : Input → Type 0} {Bad : Refused → Type 0} {Room Tight Links : ℕ → ℕ → Type 0} (limits : Limits)
    (f : IsFrame At Bad Room Tight Links limits.links limits.number) (d : ℕ) (below : Readers) (reads : Reads At Bad Room Tight d below) where
  abbrev Good : Input → Outcome Expr → Type 0
  Good = Tells At Bad (Fine Bad)

  inside : {B : Type 0} (Q : B → Type 0) (b : Input) (i : Input) (g : Expr → Parser B) → At i → b.at ≤ i.at → Tight d b.at
      → ((x : Expr) (o : Input) → At o → b.at ≤ o.at → Fine Bad x → Tells At Bad Q b (g x o)) → Tells At Bad Q b (and_then (below.inside Whole i) g)
  inside Q b i g = inner limits f d below reads Q b Whole i g

  choice_tells : (from : ℕ) (test : Expr) (i : Input) → At i → Since At from i.at → Room d i.at → sees i ≡ k.Question → Good (next i) (choice limits d below from test i)
  unfolding choice
  choice_tells from test i at le room h = tells_choice (Fine Bad) (is_quotient test) _ _ i (λ e. stops (f.syntax i at))
      (λ e. (
      let up = next-up i in
      let tight = f.sign d i at room (ap is_sign h) in
      inside (Fine Bad) (next i) (next i) _ (f.steps i at) (omega arith) tight
      (λ x j s low q. tells_expect f (Fine Bad) (next i) k.Colon j _ s low
      (λ s low c. inside (Fine Bad) (next i) (next j) _ s low tight (λ y o s low q. goes s low (f.spanned from o s (since_on le (omega arith))))))))

  condition_tells : (i : Input) → At i → Room d i.at → Good (next i) (condition limits d below i)
  unfolding condition
  condition_tells i at room =
      tells_then (Fine Bad) (Fine Bad) (logical limits d below i) _ (logical_tells limits f d below reads i at room)
      (λ test j s le q. tells_choice (Fine Bad) (same_lexeme (sees j) k.Question) _ _ j
      (λ e. (
      let up = next-up i in let on = next-up j in
      tells_from (Fine Bad) (choice limits d below (start i) test j) (omega arith)
      (choice_tells (start i) test j s (since_on (since_start i at) le) (f.room_up d i.at j.at (omega arith) room) (same (sees j) k.Question e))))
      (λ e. goes s le q))

  assignment_tells : (op : AssignOp) (i : Input) → At i → Room d i.at → assigns i ≡ Some op → Good (next i) (assignment limits d below op i)
  unfolding assignment
  assignment_tells op i at room h =
      tells_known Any (Fine Bad) (target i) _ (target_tells f i at)
      (λ ref j e s le q. (
      let there : g.Target i ref j = subst (Holds (g.Target i)) e (target_holds i) in
      let sign = assign_sign (sees j) op (assigns_behind h there) in
      let up = next-up i in let on = next-up j in
      let tight = f.sign d j s (f.room_up d i.at j.at (omega arith) room) sign in
      tells_from (Fine Bad) _ (omega arith) (inside (Fine Bad) (next j) (next j) _ (f.steps j s) (omega arith) tight
      (λ x o s low q. goes s low (fine_at limits f d below reads i o at s (omega arith))))))

  body_tells : (i : Input) → At i → Tight d i.at → Tells At Bad Any i (body limits d below i)
  unfolding body
  body_tells i at tight = by (sees i)
    where
      by : (l : Lexeme) → Tells At Bad Any i (r.body_by limits d below l i)
      by k.LBrace = tells_then Any Any (below.block i) _ (reads.block i at (f.loose d i.at tight)) (λ found o s le q. goes s le tt)
      by _ = inside Any i i _ at (omega arith) tight (λ x o s le q. goes s le tt)

  arrow_tells : (i : Input) → At i → Room d i.at → Good (next i) (arrow limits d below i)
  unfolding arrow
  arrow_tells i at room =
      tells_then Any (Fine Bad) (parameters i) _ (parameters_tells f i at)
      (λ params j s le q. tells_expect f (Fine Bad) (next i) k.Arrow j _ s le
      (λ s' le' c. (
      let up = next-up i in
      let tight = f.sign d j s (f.room_up d i.at j.at (omega arith) room) (ap is_sign c) in
      tells_then Any (Fine Bad) (body limits d below (next j)) _ (tells_from Any (body limits d below (next j)) le' (body_tells (next j) s' tight))
      (λ found o s low q. goes s low (fine_at limits f d below reads i o at s low)))))

  whole_tells : (i : Input) → At i → Room d i.at → Good (next i) (whole limits d below i)
  unfolding whole
  whole_tells i at room = tells_if (Fine Bad) (begins_arrow i.text) _ _ (λ e. arrow_tells i at room) (λ e. by (assigns i) refl)
    where
      by : (o : Option AssignOp) → assigns i ≡ o → Good (next i) (r.whole_by limits d below o i)
      by None h = condition_tells i at room
      by (Some op) h = assignment_tells op i at room h

  undivided_tells : (b : Input) (x : Expr) (i : Input) → At i → b.at ≤ i.at → Fine Bad x → Good b (undivided x i)
  undivided_tells b x i at le fine = tells_choice (Fine Bad) (is_quotient x) _ _ i (λ e. stops fine) (λ e. goes at le fine)

  pub level_tells : (form : Form) (i : Input) → At i → Room d i.at → Good (next i) (level limits d below form i)
  unfolding level
  level_tells Operand i at room =
      tells_then (Fine Bad) (Fine Bad) (prefix limits d below i) undivided (prefix_tells limits f d below reads i at room) (λ x o s le q. undivided_tells (next i) x o s le q)
  level_tells Whole i at room =
      tells_then (Fine Bad) (Fine Bad) (whole limits d below i) undivided (whole_tells i at room) (λ x o s le q. undivided_tells (next i) x o s le q)
  level_tells Bracketed i at room = whole_tells i at room
