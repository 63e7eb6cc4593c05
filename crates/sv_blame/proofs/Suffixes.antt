-- Expressions tell: suffixes and prefixes.
use Rattle.std.proofs.Common.{◌≡◌, ◌≤◌, ℕ, zero, suc, Bool, true, false, refl, ap, arith}
use Rattle.std.specs.Prelude.{Option, Some, None, Ok}
use Rattle.sv_ast.specs.declared.names.Ref.{Ref}
use Rattle.sv_ast.specs.declared.refusals.Refused.{Refused}
use Rattle.sv_ast.specs.declared.script_tree.Expr.{Expr}
use Rattle.sv_ast.specs.declared.script_tree.ExprKind.{ExprKind}
use Rattle.sv_ast.specs.declared.script_tree.ExprKind.TheVariants as e
use Rattle.sv_lex.specs.declared.lexeme.Lexeme.{Lexeme}
use Rattle.sv_lex.specs.declared.lexeme.Lexeme.TheVariants as k
use Rattle.sv_lex.specs.Reader.{Input, Outcome, Parser, and_then, sees, next, start, span_from, word}
use Rattle.sv_expr.specs.declared.form.Form.TheVariants.{Operand, Whole}
use Rattle.sv_expr.specs.Limits.{Limits}
use Rattle.sv_expr.specs.Lists.{listed}
use Rattle.sv_expr.specs.Nodes.{node}
use Rattle.sv_expr.specs.Operators.{begins_suffix, bump_behind}
use Rattle.sv_expr.specs.Quotients.{is_quotient, is_single, rounds, argument}
use Rattle.sv_expr.specs.Rules as r
use Rattle.sv_expr.specs.Rules.{Readers, target, primary, member, index, call, suffix, suffixes, targeted, suffixed, negation, minus, bumped, prefix}
use Rattle.sv_blame.proofs.Frame.{is_sign, Any, Tells, IsFrame, next-up, tells_from, tells_then, tells_choice, tells_if, tells_expect, goes, stops, Since, since_on, since_start}
use Rattle.sv_blame.proofs.Names.{word_tells, target_tells, listed_tells}
use Rattle.sv_blame.proofs.Leaves.{Fine, Reads, fine_at, inner, inside_any, opened_then, primary_tells}

module _ {At : Input → Type 0} {Bad : Refused → Type 0} {Room Tight Links : ℕ → ℕ → Type 0} (limits : Limits)
    (f : IsFrame At Bad Room Tight Links limits.links limits.number) (d : ℕ) (below : Readers) (reads : Reads At Bad Room Tight d below) where
  abbrev Good : Input → Outcome Expr → Type 0
  Good = Tells At Bad (Fine Bad)

  inside : {B : Type 0} (Q : B → Type 0) (b : Input) (i : Input) (g : Expr → Parser B) → At i → b.at ≤ i.at → Tight d b.at
      → ((x : Expr) (o : Input) → At o → b.at ≤ o.at → Fine Bad x → Tells At Bad Q b (g x o)) → Tells At Bad Q b (and_then (below.inside Whole i) g)
  inside Q b i g = inner limits f d below reads Q b Whole i g

  member_tells : (from : ℕ) (of : Expr) (i : Input) → At i → Since At from i.at → Good (next i) (member limits d below from of i)
  unfolding member
  member_tells from of i at le =
      let up = next-up i in
      tells_then Any (Fine Bad) (word (next i)) _ (tells_from Any (word (next i)) (next-up (next i)) (word_tells f (next i) (f.steps i at)))
      (λ x o s low q. goes s low (f.spanned from o s (since_on le (omega arith))))

  index_tells : (from : ℕ) (of : Expr) (i : Input) → At i → Since At from i.at → Tight d (next i).at → Good (next i) (index limits d below from of i)
  unfolding index
  index_tells from of i at le tight =
      let up = next-up i in
      inside (Fine Bad) (next i) (next i) _ (f.steps i at) (omega arith) tight
      (λ x o s low q. tells_expect f (Fine Bad) (next i) k.RBracket o _ s low (λ s low c. goes s low (f.spanned from (next o) s (since_on le (omega arith)))))

  call_tells : (from : ℕ) (of : Expr) (i : Input) → At i → Since At from i.at → Room d i.at → Tight d (next i).at → Good (next i) (call limits d below from of i)
  unfolding call
  call_tells from of i at le room tight =
      let up = next-up i in
      opened_then limits f d below reads (Fine Bad) (next i) i _ at room
      (tells_then Any (Fine Bad) (listed (below.inside (argument (rounds of i))) k.RParen (next i)) _
      (listed_tells f (below.inside (argument (rounds of i))) k.RParen (Tight d) (f.tight_up d) (inside_any limits f d below reads (argument (rounds of i))) (next i) (f.steps i at) tight)
      (λ args o s low q. tells_if (Fine Bad) (is_single args) _ _ (λ e. goes s low (f.spanned from o s (since_on le (omega arith)))) (λ e. stops (f.syntax i at))))

  suffix_tells : (from : ℕ) (of : Expr) (i : Input) → At i → Since At from i.at → Room d i.at → begins_suffix (sees i) ≡ true → Good (next i) (suffix limits d below from of i)
  unfolding suffix
  suffix_tells from of i at le room h = tells_choice (Fine Bad) (is_quotient of) _ _ i (λ e. stops (f.syntax i at)) (λ e. by (sees i) refl h)
    where
      by : (l : Lexeme) → sees i ≡ l → begins_suffix l ≡ true → Good (next i) (r.suffix_by limits d below from of l i)
      by k.Dot e h = member_tells from of i at le
      by k.LBracket e h = index_tells from of i at le (f.sign d i at room (ap is_sign e))
      by k.LParen e h = call_tells from of i at le room (f.sign d i at room (ap is_sign e))
      by _ e h = absurd (cc)

  begins_sign : (l : Lexeme) → begins_suffix l ≡ true → is_sign l ≡ true
  begins_sign k.Dot h = refl
  begins_sign k.LBracket h = refl
  begins_sign k.LParen h = refl
  begins_sign _ h = absurd (cc)

  suffixes_tell : (b : Input) (from n : ℕ) (of : Expr) (i : Input) → At i → b.at ≤ i.at → Since At from b.at → Room d b.at → Links n i.at → Fine Bad of
      → Good b (suffixes limits d below from n of i)
  unfolding suffixes
  suffixes_tell b from zero of i at le low room links fine = tells_choice (Fine Bad) (begins_suffix (sees i)) _ _ i (λ e. stops (f.long i at (f.more 0 i.at links))) (λ e. goes at le fine)
  suffixes_tell b from (suc n) of i at le low room links fine = tells_choice (Fine Bad) (begins_suffix (sees i)) _ _ i
      (λ e. (
      let up = next-up i in
      tells_from (Fine Bad) _ (omega arith) (tells_then (Fine Bad) (Fine Bad) (suffix limits d below from of i) _
      (suffix_tells from of i at (since_on low le) (f.room_up d b.at i.at le room) e)
      (λ longer o s high q. tells_from (Fine Bad) _ (omega arith) (suffixes_tell (next i) from n longer o s high (since_on low (omega arith)) (f.room_up d b.at (next i).at (omega arith) room)
      (f.links_up n (next i).at o.at high (f.link n i at links (begins_sign (sees i) e))) q)))))
      (λ e. goes at le fine)

  targeted_tells : (i : Input) → At i → Room d i.at → Good (next i) (targeted limits d below i)
  unfolding targeted
  targeted_tells i at room = tells_then Any (Fine Bad) (target i) _ (target_tells f i at) (λ ref j s le q. by ref j s le (bump_behind j))
    where
      by : (ref : Ref) (j : Input) → At j → (next i).at ≤ j.at → (o : Option Bool) → Good (next i) (r.named_by limits d below (start i) ref o j)
      by ref j s le None =
          suffixes_tell (next i) (start i) limits.links (node (span_from (start i) j) (e.Read ref)) j s le (since_start i at) (f.room_up d i.at (next i).at (next-up i) room) (f.begun j.at)
          (fine_at limits f d below reads i j at s le)
      by ref j s le (Some up) = let more = next-up j in goes (f.steps j s) (omega arith) (fine_at limits f d below reads i (next j) at (f.steps j s) (omega arith))

  suffixed_tells : (i : Input) → At i → Room d i.at → Good (next i) (suffixed limits d below i)
  unfolding suffixed
  suffixed_tells i at room =
      tells_then (Fine Bad) (Fine Bad) (primary limits d below i) _ (primary_tells limits f d below reads i at room)
      (λ first j s le q. suffixes_tell (next i) (start i) limits.links first j s le (since_start i at) (f.room_up d i.at (next i).at (next-up i) room) (f.begun j.at) q)

  -- ---- prefixes

  operand : (i : Input) (kind : Expr → ExprKind) → At i → Tight d (next i).at
      → Good (next i) (and_then (below.inside Operand (next i)) (λ x o. Ok (node (span_from (start i) o) (kind x), o)))
  operand i kind at tight =
      inner limits f d below reads (Fine Bad) (next i) Operand (next i) _ (f.steps i at) (omega arith) tight (λ x o s le q. goes s le (fine_at limits f d below reads i o at s le))

  negation_tells : (i : Input) → At i → Tight d (next i).at → Good (next i) (negation limits d below i)
  unfolding negation
  negation_tells i at tight = operand i (λ x. e.Not x) at tight

  minus_tells : (i : Input) → At i → Tight d (next i).at → Good (next i) (minus limits d below i)
  unfolding minus
  minus_tells i at tight = operand i (λ x. e.Minus x) at tight

  bumped_tells : (up : Bool) (i : Input) → At i → Room d i.at → Good (next i) (bumped limits d below up i)
  unfolding bumped
  bumped_tells up i at room =
      let more = next-up i in
      opened_then limits f d below reads (Fine Bad) (next i) (next i) _ (f.steps i at) (f.room_up d i.at (next i).at (next-up i) room)
      (tells_then Any (Fine Bad) (target (next i)) _ (tells_from Any (target (next i)) (next-up (next i)) (target_tells f (next i) (f.steps i at)))
      (λ ref o s le q. goes s le (fine_at limits f d below reads i o at s le)))

  pub prefix_tells : (i : Input) → At i → Room d i.at → Good (next i) (prefix limits d below i)
  unfolding prefix
  prefix_tells i at room = by (sees i) refl
    where
      by : (l : Lexeme) → sees i ≡ l → Good (next i) (r.prefix_by limits d below l i)
      by k.Bang e = negation_tells i at (f.sign d i at room (ap is_sign e))
      by k.Minus e = minus_tells i at (f.sign d i at room (ap is_sign e))
      by k.PlusPlus e = bumped_tells true i at room
      by k.MinusMinus e = bumped_tells false i at room
      by k.Name e = targeted_tells i at room
      by k.Store e = targeted_tells i at room
      by _ e = suffixed_tells i at room
