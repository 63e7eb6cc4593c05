-- The first of two lists of mistakes, one behind the other.
use Rattle.std.proofs.Common.{◌<◌, ◌≤◌, cond, List, ◌∷◌, ◌++◌, Option, None, Some, All, sym, ap, ◌∙◌, inl, inr, subst, arith, append_assoc}
use Rattle.std.proofs.lemmas.Bool.{cases_lt, lt-ltb, le-ltb}
use Rattle.std.proofs.lemmas.List.{append-nil}
use Rattle.std.proofs.lemmas.List.Elements.{All-cons, All-append, All-weaker}
use Rattle.sv_resolve.specs.declared.refusals.CheckRefusal.{CheckRefusal}
use Rattle.sv_resolve.specs.Earliest.{IsFirst}
use Rattle.sv_check.specs.First.{joined}

abbrev IsBefore : CheckRefusal → CheckRefusal → Type 0
IsBefore a b = a.at.from < b.at.from

abbrev IsNoLater : CheckRefusal → CheckRefusal → Type 0
IsNoLater a b = a.at.from ≤ b.at.from

pub joined_first : (first second : Option CheckRefusal) (xs ys : List CheckRefusal) → IsFirst first xs → IsFirst second ys → IsFirst (joined first second) (xs ++ ys)
joined_first None None xs ys none_is others = ap (λ z. z ++ ys) none_is ∙ others
joined_first (Some first) None xs ys is none_is = subst (IsFirst (Some first)) (sym (ap (λ z. xs ++ z) none_is ∙ append-nil xs)) is
joined_first None (Some second) xs ys none_is is = subst (IsFirst (Some second)) (sym (ap (λ z. z ++ ys) none_is)) is
joined_first (Some first) (Some second) xs ys is other = elim (cases_lt second.at.from first.at.from) [
  | inl sooner ↦ subst (λ b. IsFirst (cond b (Some second) (Some first)) (xs ++ ys)) (sym (lt-ltb second.at.from first.at.from sooner)) (record {
    front = xs ++ other.front;
    back = other.back;
    stands = ap (λ z. xs ++ z) other.stands ∙ sym (append_assoc xs other.front (second ∷ other.back));
    before = All-append (IsBefore second) xs other.front
        (subst (All (IsBefore second)) (sym is.stands) (All-append (IsBefore second) is.front (first ∷ is.back)
        (All-weaker (IsBefore first) (IsBefore second) (λ a h. omega arith) is.front is.before)
        (All-cons (IsBefore second) first is.back sooner (All-weaker (IsNoLater first) (IsBefore second) (λ a h. omega arith) is.back is.behind))))
        other.before;
    behind = other.behind;
  })
  | inr later ↦ subst (λ b. IsFirst (cond b (Some second) (Some first)) (xs ++ ys)) (sym (le-ltb second.at.from first.at.from later)) (record {
    front = is.front;
    back = is.back ++ ys;
    stands = ap (λ z. z ++ ys) is.stands ∙ append_assoc is.front (first ∷ is.back) ys;
    before = is.before;
    behind = All-append (IsNoLater first) is.back ys is.behind
        (subst (All (IsNoLater first)) (sym other.stands) (All-append (IsNoLater first) other.front (second ∷ other.back)
        (All-weaker (IsBefore second) (IsNoLater first) (λ a h. omega arith) other.front other.before)
        (All-cons (IsNoLater first) second other.back later (All-weaker (IsNoLater second) (IsNoLater first) (λ a h. omega arith) other.back other.behind))));
  })
]
