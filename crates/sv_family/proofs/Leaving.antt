-- Instances leave the places at which they stood: the fact stays.
use Rattle.std.proofs.Common.{◌≡◌, ◌≢◌, ℕ, ◌≤◌, List, [], ◌∷◌, Some, None, sym, ap, subst, ◌∙◌, arith, ⊎_elim, inl, inr}
use Rattle.std.proofs.lemmas.Bool.{cases_eq}
use Rattle.std.proofs.lemmas.Option.{same_Some}
use Rattle.sv_code.specs.Names.{Each}
use Rattle.sv_code.specs.declared.program.Program.{Program}
use Rattle.sv_family.proofs.Course.{Leaves}
use Rattle.sv_family.proofs.Going.{family-gone}
use Rattle.sv_family.proofs.Kids.{any-counts, places-are, child-is, left-counts}
use Rattle.sv_family.proofs.Passing.{family-left}
use Rattle.sv_family.proofs.Removal.{found-before, found-gone, found-other, sorted-left}
use Rattle.sv_family.specs.Family.{Family, ArePlaces, AreChildren, AreSorted, HoldIsKept, is_child_of, kid}
use Rattle.sv_family.specs.Kin.{Kins, parent_at}
use Rattle.sv_family.specs.Pending.{Pending}
use Rattle.sv_parts.specs.declared.state.Effect.TheVariants.{Destroy}
use Rattle.sv_places.proofs.Lookups.{found-left}
use Rattle.sv_places.specs.Keeping.{parts_of}
use Rattle.sv_shapes.specs.Places.{places_all}
use Rattle.sv_shapes.specs.Showing.{Showing, child_at, places_of, without_child}
use Rattle.sv_stands.specs.Holds.{Hold}
use Rattle.sv_places.specs.Any.{Any}
use Rattle.sv_tokens.specs.Counting.{one}

-- ---- who leaves

module _ (s : Showing) (place : ℕ) (sorted : AreSorted s.children) where
  -- nobody stands at the place any more
  pub nobody-left : child_at (without_child s place) place ≡ None
  nobody-left = found-gone place s.children sorted

  -- who stands elsewhere stood there
  pub stood : (a n : ℕ) → child_at (without_child s place) a ≡ Some n → child_at s a ≡ Some n
  stood a n is = found-before place a s.children n sorted is

  stands : (a n : ℕ) → a ≢ place → child_at s a ≡ Some n → child_at (without_child s place) a ≡ Some n
  stands a n other is = found-left s.children place a other ∙ is

  -- no place has more children
  fewer-kids : (ks : Kins) (q a : ℕ) → kid ks (without_child s place) q a ≤ kid ks s q a
  fewer-kids ks q a = ⊎_elim
      (λ same. let e : kid ks (without_child s place) q a ≡ 0 = ap (λ o. one (is_child_of ks q o)) (ap (child_at (without_child s place)) same ∙ nobody-left) in omega (arith, e))
      (λ other. let e : kid ks (without_child s place) q a ≡ kid ks s q a = ap (λ o. one (is_child_of ks q o)) (found-left s.children place a other) in omega (arith, e))
      (cases_eq a place)

  places-taken : (pend : Pending) (ks : Kins) (next : ℕ) → ArePlaces pend ks s next → ArePlaces pend ks (without_child s place) next
  places-taken pend ks next h = record {
    once = h.once;
    apart = h.apart;
    kids = λ q a. let x = h.kids q a in let y = fewer-kids ks q a in omega (arith, x, y);
    due = h.due;
  }

  children-taken : (leaving : List ℕ) (n : ℕ) (ks : Kins) → child_at s place ≡ Some n → AreChildren leaving ks s → AreChildren (n ∷ leaving) ks (without_child s place)
  children-taken leaving n ks is h = record {
    sorted = sorted-left place s.children sorted;
    parent = λ a m there. h.parent a m (stood a m there);
    once = λ a b m first second. h.once a b m (stood a m first) (stood b m second);
    left = λ a m gone there. ⊎_elim
        (λ same. found-other place a s.children m sorted there (h.once a place m (stood a m there) (is ∙ ap Some same)))
        (λ before. h.left a m before (stood a m there))
        gone;
    stand = λ m q parent. ⊎_elim
        (λ before. inl (inr before))
        (λ there. ⊎_elim
        (λ same. inl (inl (same_Some n m (sym is ∙ (ap (child_at s) (sym same) ∙ there.1)))))
        (λ other. inr (there.0, stands there.0 m other there.1))
        (cases_eq there.0 place))
        (h.stand m q parent);
  }

  holds-taken : (ks : Kins) (holds : List Hold) → Each (HoldIsKept ks s) holds → Each (HoldIsKept ks (without_child s place)) holds
  holds-taken ks [] h = h
  holds-taken ks (x ∷ holds) h = (λ n kin there live. h.0 n kin (stood x.place n there) live, holds-taken ks holds h.1)

-- the child at a place leaves
pub family-taken : (p : Program) (pend : Pending) (leaving : List ℕ) (place n : ℕ) (ks : Kins) (s : Showing) (next : ℕ) → child_at s place ≡ Some n → Family p pend None leaving ks s next →
    Family p pend None (n ∷ leaving) ks (without_child s place) next
family-taken p pend leaving place n ks s next is f = record {
  parents = f.parents;
  cells = f.cells;
  lent = record { above = f.lent.above; owners = f.lent.owners; there = f.lent.there; unseen = f.lent.unseen };
  sorted = f.sorted;
  shown = f.shown;
  places = places-taken s place f.children.sorted pend ks next f.places;
  children = children-taken s place f.children.sorted leaving n ks is f.children;
  kept = λ m x there. holds-taken s place f.children.sorted ks _ (f.kept m x there);
  pending = record { ascend = f.pending.ascend; made = f.pending.made; for = f.pending.for; shown = f.pending.shown };
}

-- ---- all of it

-- a child at a place of an instance is one of it
shown-child : (p : Program) (pend : Pending) (leaving : List ℕ) (n place d : ℕ) (ks : Kins) (s : Showing) (next : ℕ) → Any (λ l. l ≡ place) (places_of s n) → child_at s place ≡ Some d →
    Family p pend None leaving ks s next → parent_at ks d ≡ Some n
shown-child p pend leaving n place d ks s next stands is f =
    let a = any-counts place (places_all (parts_of s n)) (subst (Any (λ l. l ≡ place)) (places-are s n) stands) in
    child-is pend leaving ks s next n place d f.places f.children (omega (arith, a)) is

pub family_leaves : (p : Program) → Leaves (λ pend new leaving ks s next. Family p pend new leaving ks s next)
family_leaves p = record {
  parents = λ pend new leaving ks s next f. f.parents;
  child_of = λ pend leaving n place d ks s next before stands is f. shown-child p pend leaving n place d ks s next stands is f;
  leaves = λ pend leaving q place n ks s next is parent leaves f. family-taken p pend leaving place n ks s next is f;
  destroyed_child = λ pend q place es n ks s next is f. child-is ((q, Destroy place ∷ es) ∷ pend) [] ks s next q place n f.places f.children (left-counts pend q place es s) is;
  leaves_destroyed = λ pend q place es n ks s next is f.
      family-left p pend q place es None (n ∷ []) ks (without_child s place) next (nobody-left s place f.children.sorted) (family-taken p ((q, Destroy place ∷ es) ∷ pend) [] place n ks s next is f);
  goes = λ pend leaving n ks s next before earlier nobody f. family-gone p pend leaving n ks s next before earlier nobody f;
}
