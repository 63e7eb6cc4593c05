-- Whose child stands at a place.
use Rattle.std.proofs.Common.{◌≡◌, ◌⊎◌, ℕ, ◌+◌, ◌≤◌, Bool, true, false, nat_eq, nat_le, nat_lt, ◌&&◌, List, [], ◌∷◌, Option, Some, None, is_some, refl, sym, ap, ◌∙◌, arith, ⊎_elim, inl, inr}
use Rattle.std.specs.Option.{option_map_or}
use Rattle.std.proofs.lemmas.Bool.{cases_eq, eq-eqb, eqb-true}
use Rattle.sv_family.proofs.Passing.{own, leaving-head}
use Rattle.sv_family.specs.Family.{ArePlaces, AreChildren, is_parent, is_child_of, kid, load}
use Rattle.sv_family.specs.Kin.{Kins, parent_at}
use Rattle.sv_family.specs.Pending.{Pending}
use Rattle.sv_parts.specs.declared.state.Effect.{Effect}
use Rattle.sv_parts.specs.declared.state.Effect.TheVariants.{Destroy}
use Rattle.sv_places.specs.Keeping.{parts_of, destroyed_by}
use Rattle.sv_places.specs.Numbers.{count}
use Rattle.sv_plan.specs.Patch.{old_parts}
use Rattle.sv_shapes.specs.Places.{places_all}
use Rattle.sv_shapes.specs.Showing.{Showing, child_at, places_of, shown_of}
use Rattle.sv_shapes.specs.declared.shown.Shown.{Shown}
use Rattle.sv_places.specs.Any.{Any}
use Rattle.sv_tokens.proofs.Counting.{one-most}
use Rattle.sv_tokens.specs.Counting.{one}

-- ---- numbers in lists

-- what stands in a list counts
pub any-counts : (n : ℕ) (list : List ℕ) → Any (λ l. l ≡ n) list → 1 ≤ count n list
any-counts n [] h = absurd h
any-counts n (x ∷ list) h = ⊎_elim
    (λ here. let e : one (nat_eq n x) ≡ 1 = ap one (eq-eqb n x (sym here)) in omega (arith, e))
    (λ there. let rest = any-counts n list there in omega (arith, rest))
    h

pub counts-any : (n : ℕ) (list : List ℕ) → 1 ≤ count n list → Any (λ l. l ≡ n) list
counts-any n [] h = absurd (omega (arith, h))
counts-any n (x ∷ list) h = by (counts-any n list) (nat_eq n x) refl h where
  by : (1 ≤ count n list → Any (λ l. l ≡ n) list) → (b : Bool) → nat_eq n x ≡ b → 1 ≤ one b + count n list → (x ≡ n) ⊎ Any (λ l. l ≡ n) list
  by rest true is g = inl (sym (eqb-true n x is))
  by rest false is g = inr (rest (omega (arith, g)))

-- the places of an instance are those in what is shown of it
pub places-are : (s : Showing) (n : ℕ) → places_of s n ≡ places_all (parts_of s n)
unfolding places_all
places-are s n = by (shown_of s n) where
  by : (o : Option Shown) → option_map_or (λ x. places_all x.parts) o [] ≡ places_all (old_parts o)
  by None = refl
  by (Some x) = refl

-- ---- whose child stands at a place

-- a child of an instance counts
pub kid-counts : (ks : Kins) (s : Showing) (q place d : ℕ) → child_at s place ≡ Some d → parent_at ks d ≡ Some q → kid ks s q place ≡ 1
kid-counts ks s q place d child parent = ap (λ o. one (is_child_of ks q o)) child ∙ (ap (λ o. one (is_parent q o)) parent ∙ ap one (eq-eqb q q refl))

-- at a place of an instance it is one of it
pub child-is : (pend : Pending) (leaving : List ℕ) (ks : Kins) (s : Showing) (next q place d : ℕ) → ArePlaces pend ks s next → AreChildren leaving ks s → 1 ≤ load pend s q place → child_at s place ≡ Some d →
    parent_at ks d ≡ Some q
child-is pend leaving ks s next q place d places children loaded child = by (parent_at ks d) refl (children.parent place d child) where
  by : (o : Option ℕ) → parent_at ks d ≡ o → is_some o ≡ true → o ≡ Some q
  by None is there = cc
  by (Some r) is there = ⊎_elim
      (λ same. ap Some same)
      (λ other.
      let a = kid-counts ks s r place d child is in
      let b = places.kids r place in
      let c = places.apart r q place other in
      let e = one-most (nat_le 0 place && nat_lt place next) in
      absurd (omega (arith, a, b, c, e, loaded)))
      (cases_eq r q)

-- a place that is to be left counts
pub left-counts : (pend : Pending) (q place : ℕ) (es : List Effect) (s : Showing) → 1 ≤ load ((q, Destroy place ∷ es) ∷ pend) s q place
left-counts pend q place es s =
    let a = leaving-head pend q (Destroy place) es q place in
    let b : own (nat_eq q q) (count place (destroyed_by (Destroy place))) ≡ count place (destroyed_by (Destroy place)) = ap (λ b. own b (count place (destroyed_by (Destroy place)))) (eq-eqb q q refl) in
    let c : count place (destroyed_by (Destroy place)) ≡ 1 = ap (λ b. one b + 0) (eq-eqb place place refl) in
    omega (arith, a, b, c)
