-- What a refusal says of the grammar.
use Rattle.std.proofs.Common.{◌≡◌, ◌⊎◌, inl, inr, refl, sym, ◌∙◌, subst}
use Rattle.std.proofs.Math.Seq.{take-length}
use Rattle.std.specs.Prelude.{Result, Ok, Err}
use Rattle.std.specs.Result.{IsErr, IsErrAnd}
use Rattle.sv_ast.specs.declared.refusals.Kind.{Kind}
use Rattle.sv_ast.specs.declared.refusals.Kind.TheVariants.{Syntax, TooDeep, NumberTooWide}
use Rattle.sv_ast.specs.declared.refusals.Refused.{Refused}
use Rattle.sv_ast.specs.declared.refusals.ParseError.{ParseError}
use Rattle.sv_ast.specs.declared.refusals.ParseError.TheVariants as errors
use Rattle.sv_lex.specs.Reader.{Input, Outcome, Parser, Fails}
use Rattle.sv_expr.specs.Laws.{IsLimited}
use Rattle.sv_script.specs.Calls.{HasTree, Refuses}
use Rattle.sv_script.specs.Laws.{Complete, Blamed}

-- a limit is another cause than the grammar
no_limit : (a b : Kind) → a ≡ Syntax → (b ≡ TooDeep) ⊎ (b ≡ NumberTooWide) → b ≡ a → ⊥
no_limit a b s (inl h) e = cc
no_limit a b s (inr h) e = cc

module _ {L A : Type 0} (read : L → Parser A) (Is : L → Input → A → Input → Type 0) (complete : Complete read Is) (blamed : Blamed read Is) where
  no_tree : (limits : L) (i : Input) (r : Refused) → read limits i ≡ Err r → HasTree (Is limits) i → ⊥
  no_tree limits i r h t = let both : ◌≡◌ {A = Outcome A} (Err r) (Ok (t.0, t.1)) = sym h ∙ complete limits i t.1 t.0 t.2 in cc

  no_cause : (limits : L) (i : Input) (r : Refused) → read limits i ≡ Err r → r.kind ≡ Syntax → (wide : L) → HasTree (Is wide) i → ⊥
  no_cause limits i r h s wide t = by (blamed limits wide i t.1 t.0 t.2)
    where
      by : (read limits i ≡ Ok (t.0, t.1)) ⊎ IsLimited (read limits i) → ⊥
      by (inl g) = let both : ◌≡◌ {A = Outcome A} (Err r) (Ok (t.0, t.1)) = sym h ∙ g in cc
      by (inr l) = let both : ◌≡◌ {A = Outcome A} (Err l.0) (Err r) = sym l.1 ∙ h in let same : l.0 ≡ r = cc in no_limit r.kind l.0.kind s l.2 (cc)

  pub refuses : (limits : L) (i : Input) (e : ParseError) → Fails (read limits i) e → Refuses Is limits i e i.known i.known
  refuses limits i errors.NoMemory h = take-length i.known
  refuses limits i (errors.Refused r) h = (no_tree limits i r h, no_cause limits i r h, refl)

-- a `?` gives its error on
pub given_on : {B : Type 0} (Answer : Result B ParseError → Type 0) (result : Result B ParseError) (e : ParseError) → IsErr result → IsErrAnd result (λ x. x ≡ e)
    → Answer (Err e) → Answer result
given_on Answer (Ok b) e h g a = absurd (cc)
given_on Answer (Err x) e h g a = subst (λ y. Answer (Err y)) (sym g) a
