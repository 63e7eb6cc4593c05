-- The first of some places, and of some behind others.
use Rattle.std.proofs.Common.{◌≡◌, List, [], ◌∷◌, ◌++◌, refl, sym, ap, ◌∙◌}
use Rattle.std.specs.Prelude.{Result, Ok, Err, is_ok, is_none}
use Rattle.std.specs.Result.{IsErr, IsErrAnd, result_err}
use Rattle.sv_base.specs.declared.span.Span.{Span}
use Rattle.sv_purity.specs.First.{is_empty, first, outcome}

-- the second, where the first is no refusal
abbrev pub then : Result (Unit {0}) Span → Result (Unit {0}) Span → Result (Unit {0}) Span
then (Ok done) second = second
then (Err place) second = Err place

pub outcome_append : (places more : List Span) → outcome (places ++ more) ≡ then (outcome places) (outcome more)
outcome_append [] more = refl
outcome_append (place ∷ places) more = refl

pub is_ok_outcome : (places : List Span) → is_ok (outcome places) ≡ is_empty places
is_ok_outcome [] = refl
is_ok_outcome (place ∷ places) = refl

pub result_err_outcome : (places : List Span) → result_err (outcome places) ≡ first places
result_err_outcome [] = refl
result_err_outcome (place ∷ places) = refl

pub is_none_first : (places : List Span) → is_none (first places) ≡ is_empty places
is_none_first [] = refl
is_none_first (place ∷ places) = refl

-- two parts are looked at, one after the other
pub outcomes : {one two : Result (Unit {0}) Span} (places more : List Span) → one ≡ outcome places → two ≡ outcome more → then one two ≡ outcome (places ++ more)
outcomes {one = one} places more a b = ap (then one) b ∙ ap (λ r. then r (outcome more)) a ∙ sym (outcome_append places more)

-- a refusal is handed on
pub handed_on : (wanted result : Result (Unit {0}) Span) (e : Span) → IsErr result → IsErrAnd result (λ x. x ≡ e) → Err e ≡ wanted → result ≡ wanted
handed_on wanted (Ok done) e h g is = absurd (cc)
handed_on wanted (Err x) e h g is = ap (λ y. Err y) g ∙ is
