-- Suffixes and prefixes that are read are in the grammar.
use Rattle.std.proofs.Common.{◌≡◌, ◌≤◌, ℕ, zero, suc, Bool, true, false, List, refl, ap, arith}
use Rattle.std.specs.Prelude.{Option, Some, None, Ok}
use Rattle.sv_ast.specs.declared.names.Ref.{Ref}
use Rattle.sv_ast.specs.declared.script_tree.Expr.{Expr}
use Rattle.sv_ast.specs.declared.script_tree.ExprKind.TheVariants as e
use Rattle.sv_ast.specs.declared.script_tree.Stmt.{Stmt}
use Rattle.sv_lex.specs.declared.lexeme.Lexeme.{Lexeme}
use Rattle.sv_lex.specs.declared.lexeme.Lexeme.TheVariants as k
use Rattle.sv_lex.specs.Reader.{Input, Parser, and_then, sees, next, start, span_from, word}
use Rattle.sv_lex.proofs.Steps.{Holds, holds_then, holds_weaker, holds_if, holds_choice, holds_expect}
use Rattle.sv_expr.specs.declared.form.Form.{Form}
use Rattle.sv_expr.specs.declared.form.Form.TheVariants.{Operand, Whole}
use Rattle.sv_expr.specs.Grammar as g
use Rattle.sv_expr.specs.Limits.{Limits}
use Rattle.sv_expr.specs.Lists.{listed}
use Rattle.sv_expr.specs.Nodes.{node}
use Rattle.sv_expr.specs.Operators.{begins_suffix, bump, bump_behind}
use Rattle.sv_expr.specs.Quotients.{is_quotient, rounds, argument, is_single}
use Rattle.sv_expr.specs.Rules as r
use Rattle.sv_expr.specs.Rules.{Readers, target, primary, member, index, call, suffix, suffixes, targeted, suffixed, negation, minus, bumped, prefix}
use Rattle.sv_expr.proofs.SoundLists.{holds_self, IsList, listed_holds}
use Rattle.sv_expr.proofs.SoundLeaves.{Holding, holds_inside, holds_opened, target_holds, primary_holds}

module _ (limits : Limits) (readers : ℕ → Readers) (d : ℕ) (below : Holding limits readers d) where
  abbrev block : ℕ → Parser (List Stmt)
  block n = (readers n).block

  abbrev Inside : Form → Input → Expr → Input → Type 0
  Inside = g.Inside limits block d

  abbrev Suffixes : ℕ → ℕ → Expr → Input → Expr → Input → Type 0
  Suffixes = g.Suffixes limits block d

  inner : {B : Type 0} (Q : B → Input → Type 0) (form : Form) (i : Input) (f : Expr → Parser B)
      → ((x : Expr) (j : Input) → Inside form i x j → Holds Q (f x j)) → Holds Q (and_then ((readers d).inside form i) f)
  inner = holds_inside limits readers d below

  -- a suffix goes before any others
  abbrev Step : ℕ → Expr → Input → Expr → Input → Type 0
  Step from of i x j = (n : ℕ) (t : Expr) (o : Input) → Suffixes n from x j t o → Suffixes (suc n) from of i t o

  member_holds : (from : ℕ) (of : Expr) (i : Input) → is_quotient of ≡ false → sees i ≡ k.Dot → Holds (Step from of i) (member limits d (readers d) from of i)
  unfolding member
  member_holds from of i q h = holds_then (λ found o. word (next i) ≡ Ok (found, o)) (Step from of i) (word (next i)) _ (holds_self (word (next i)))
      (λ found j e n t o s. g.member q h e s)

  index_holds : (from : ℕ) (of : Expr) (i : Input) → is_quotient of ≡ false → sees i ≡ k.LBracket → Holds (Step from of i) (index limits d (readers d) from of i)
  unfolding index
  index_holds from of i q h = inner (Step from of i) Whole (next i) _ (λ x j hx. holds_expect (Step from of i) k.RBracket j _ (λ c n t o s. g.index q h hx c s))

  args : (form : Form) → IsList k.RParen (Inside form) (g.Args limits block d form)
  args form = record {
    ends = λ i h. g.args_end h;
    last = λ i j x p h. g.args_last p h;
    more = λ i j o x xs p h rest. g.args_more p h rest;
  }

  call_holds : (from : ℕ) (of : Expr) (i : Input) → is_quotient of ≡ false → sees i ≡ k.LParen → Holds (Step from of i) (call limits d (readers d) from of i)
  unfolding call
  call_holds from of i q h =
      let form = argument (rounds of i) in
      let Q = Step from of i in
      holds_opened limits readers d below Q i _ (λ room. holds_then (g.Args limits block d form (next i)) Q (listed ((readers d).inside form) k.RParen (next i)) _
      (listed_holds ((readers d).inside form) k.RParen (Inside form) (g.Args limits block d form) (args form) (below form) (next i))
      (λ found j m. holds_if Q (is_single found) _ _ (λ one n t o s. g.call q h room m one s) (λ none. tt)))

  suffix_holds : (from : ℕ) (of : Expr) (i : Input) → begins_suffix (sees i) ≡ true → Holds (Step from of i) (suffix limits d (readers d) from of i)
  unfolding suffix
  suffix_holds from of i b = holds_choice (Step from of i) (is_quotient of) _ _ i (λ q. tt) (λ q. by (sees i) refl b q)
    where
      by : (l : Lexeme) → sees i ≡ l → begins_suffix l ≡ true → is_quotient of ≡ false → Holds (Step from of i) (r.suffix_by limits d (readers d) from of l i)
      by k.Dot h b q = member_holds from of i q h
      by k.LBracket h b q = index_holds from of i q h
      by k.LParen h b q = call_holds from of i q h
      by _ h b q = absurd (cc)

  -- a chain of suffixes, of at most so many
  abbrev Chain : ℕ → ℕ → Expr → Input → Expr → Input → Type 0
  Chain most from of i t o = (n : ℕ) × (n ≤ most) × Suffixes n from of i t o

  suffixes_holds : (most from : ℕ) (of : Expr) (i : Input) → Holds (Chain most from of i) (suffixes limits d (readers d) from most of i)
  unfolding suffixes
  suffixes_holds zero from of i = holds_choice (Chain zero from of i) (begins_suffix (sees i)) _ _ i (λ _. tt) (λ e. (zero, omega arith, g.no_suffix e))
  suffixes_holds (suc most) from of i =
      let Q = Chain (suc most) from of i in
      holds_choice Q (begins_suffix (sees i)) _ _ i
      (λ b. holds_then (Step from of i) Q (suffix limits d (readers d) from of i) _ (suffix_holds from of i b)
      (λ x j step. holds_weaker (Chain most from x j) Q _ (λ t o m. (suc m.0, omega (arith, m.1), step m.0 t o m.2)) (suffixes_holds most from x j)))
      (λ e. (zero, omega arith, g.no_suffix e))

  abbrev Prefix : Input → Expr → Input → Type 0
  Prefix = g.Prefix limits block d

  suffixed_holds : (i : Input) → Holds (Prefix i) (suffixed limits d (readers d) i)
  unfolding suffixed
  suffixed_holds i = holds_then (g.Primary limits block d i) (Prefix i) (primary limits d (readers d) i) _ (primary_holds limits readers d below i)
      (λ first j hf. holds_weaker (Chain limits.links (start i) first j) (Prefix i) _ (λ t o m. g.suffixed hf m.2 m.1) (suffixes_holds limits.links (start i) first j))

  targeted_holds : (i : Input) → Holds (Prefix i) (targeted limits d (readers d) i)
  unfolding targeted
  targeted_holds i = holds_then (g.Target i) (Prefix i) (target i) _ (target_holds i) (λ ref j ht. by ref j ht (bump_behind j) refl)
    where
      by : (ref : Ref) (j : Input) → g.Target i ref j → (b : Option Bool) → bump_behind j ≡ b → Holds (Prefix i) (r.named_by limits d (readers d) (start i) ref b j)
      by ref j ht None h =
          holds_weaker (Chain limits.links (start i) (node (span_from (start i) j) (e.Read ref)) j) (Prefix i) _ (λ t o m. g.read ht h m.2 m.1)
          (suffixes_holds limits.links (start i) (node (span_from (start i) j) (e.Read ref)) j)
      by ref j ht (Some up) h = g.bumping ht h

  negation_holds : (i : Input) → sees i ≡ k.Bang → Holds (Prefix i) (negation limits d (readers d) i)
  unfolding negation
  negation_holds i h = inner (Prefix i) Operand (next i) _ (λ x o hx. g.negation h hx)

  minus_holds : (i : Input) → sees i ≡ k.Minus → Holds (Prefix i) (minus limits d (readers d) i)
  unfolding minus
  minus_holds i h = inner (Prefix i) Operand (next i) _ (λ x o hx. g.minus h hx)

  bumped_holds : (up : Bool) (i : Input) → bump (sees i) ≡ Some up → Holds (Prefix i) (bumped limits d (readers d) up i)
  unfolding bumped
  bumped_holds up i h = holds_opened limits readers d below (Prefix i) (next i) _ (λ room. holds_then (g.Target (next i)) (Prefix i) (target (next i)) _ (target_holds (next i))
      (λ ref o ht. g.bumped h room ht))

  pub prefix_holds : (i : Input) → Holds (Prefix i) (prefix limits d (readers d) i)
  unfolding prefix
  prefix_holds i = by (sees i) refl
    where
      by : (l : Lexeme) → sees i ≡ l → Holds (Prefix i) (r.prefix_by limits d (readers d) l i)
      by k.Bang h = negation_holds i h
      by k.Minus h = minus_holds i h
      by k.PlusPlus h = bumped_holds true i (ap bump h)
      by k.MinusMinus h = bumped_holds false i (ap bump h)
      by k.Name h = targeted_holds i
      by k.Store h = targeted_holds i
      by _ h = suffixed_holds i
