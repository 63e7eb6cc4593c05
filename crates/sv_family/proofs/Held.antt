-- Of each place one tag tells, and one instance has its child.
use Rattle.std.proofs.Common.{◌≡◌, ◌≢◌, ⊎_elim, ℕ, ◌+◌, ◌≤◌, nat_eq, List, [], ◌∷◌, None, Some, inl, inr, refl, sym, ap, subst, ◌∙◌, arith}
use Rattle.std.proofs.lemmas.Bool.{cases_eq, eq-eqb}
use Rattle.std.proofs.lemmas.Option.{same_Some}
use Rattle.sv_code.specs.Names.{Each}
use Rattle.sv_code.specs.declared.program.Program.{Program}
use Rattle.sv_family.proofs.Staying.{is_there}
use Rattle.sv_family.specs.Family.{ArePlaces, AreChildren, IsShown, markup_in, holds_in, is_parent, is_child_of, kid, load, due}
use Rattle.sv_family.specs.Kin.{Kins, tags_in, parent_at}
use Rattle.sv_family.specs.Pending.{Pending}
use Rattle.sv_places.specs.Keeping.{parts_of}
use Rattle.sv_places.specs.Numbers.{count, given}
use Rattle.sv_plan.specs.Patch.{old_parts}
use Rattle.sv_shapes.specs.Places.{places_all}
use Rattle.sv_shapes.specs.Showing.{Showing, shown_of, child_at}
use Rattle.sv_shapes.specs.declared.shown.Shown.{Shown}
use Rattle.sv_stands.proofs.Markup.{all_stands}
use Rattle.sv_stands.proofs.Stands.{places_held}
use Rattle.sv_stands.specs.Holds.{Hold}
use Rattle.sv_places.specs.Any.{Any}
use Rattle.sv_states.proofs.Altering.{option_cases}
use Rattle.sv_tokens.proofs.Counting.{one-most}
use Rattle.sv_tokens.specs.Counting.{one}

pub given_most : (next place : ℕ) → given 0 next place ≤ 1
given_most next place = one-most _

-- ---- holds with one place

module _ (place : ℕ) (Q : Hold → Type 0) where
  pub any_counts : (hs : List Hold) → Any (λ h. (h.place ≡ place) × Q h) hs → 1 ≤ count place (places_held hs)
  any_counts [] h = absurd h
  any_counts (x ∷ hs) (inl h) = let e : one (nat_eq place x.place) ≡ 1 = ap one (eq-eqb place x.place (sym h.0)) in omega (arith, e)
  any_counts (x ∷ hs) (inr h) = let e = any_counts hs h in omega (arith, e)

  none_at : (hs : List Hold) → count place (places_held hs) ≤ 0 → Each (λ h. h.place ≡ place → Q h) hs
  none_at [] le = tt
  none_at (x ∷ hs) le = (λ is. absurd (let e : one (nat_eq place x.place) ≡ 1 = ap one (eq-eqb place x.place (sym is)) in omega (arith, e, le)), none_at hs (omega (arith, le)))

  -- where a place stands once, what is so of one hold there is so of each
  pub each_alone : (hs : List Hold) → count place (places_held hs) ≤ 1 → Any (λ h. (h.place ≡ place) × Q h) hs → Each (λ h. h.place ≡ place → Q h) hs
  each_alone [] le h = tt
  each_alone (x ∷ hs) le (inl h) = (λ is. h.1, none_at hs (let e : one (nat_eq place x.place) ≡ 1 = ap one (eq-eqb place x.place (sym h.0)) in omega (arith, e, le)))
  each_alone (x ∷ hs) le (inr h) =
      let more = any_counts hs h in
      (λ is. absurd (let e : one (nat_eq place x.place) ≡ 1 = ap one (eq-eqb place x.place (sym is)) in omega (arith, e, le, more)), each_alone hs (omega (arith, le)) h)

-- the places of the holds in what is shown
pub held_places : (p : Program) (ks : Kins) (s : Showing) (n : ℕ) (x : Shown) → shown_of s n ≡ Some x → IsShown p ks n x → places_held (holds_in p ks n x) ≡ places_all (parts_of s n)
held_places p ks s n x is h = (all_stands p (tags_in ks x.view) (markup_in p ks n)).places x.view x.parts h.fits ∙ sym (ap (λ o. places_all (old_parts o)) is)

-- ---- by the counts of places

module _ (pend : Pending) (ks : Kins) (s : Showing) (next : ℕ) (places : ArePlaces pend ks s next) where
  -- two instances don't have one place
  pub same_owner : (q r place : ℕ) → 1 ≤ load pend s q place → 1 ≤ load pend s r place → q ≡ r
  same_owner q r place a b = ⊎_elim (λ is. is) (λ other. absurd (let e = places.apart q r place other in let g = given_most next place in omega (arith, a, b, e, g))) (cases_eq q r)

  pub kid_loads : (q place n : ℕ) → child_at s place ≡ Some n → parent_at ks n ≡ Some q → 1 + due pend q place ≤ load pend s q place
  kid_loads q place n is parent =
      let k : kid ks s q place ≡ 1 = ap (λ o. one (is_child_of ks q o)) is ∙ (ap (λ o. one (is_parent q o)) parent ∙ ap one (eq-eqb q q refl)) in
      let e = places.kids q place in omega (arith, k, e)

  -- the child at a place of an instance is one of it
  pub child_by_place : (leaving : List ℕ) → AreChildren leaving ks s → (q place n : ℕ) → child_at s place ≡ Some n → 1 ≤ load pend s q place → parent_at ks n ≡ Some q
  child_by_place leaving children q place n is le =
      let r = is_there (parent_at ks n) (children.parent place n is) in
      let k = kid_loads r.0 place n is r.1 in
      r.1 ∙ ap Some (same_owner r.0 q place (omega (arith, k)) le)

  -- where a child is still to be made there is none
  pub none_yet : (leaving : List ℕ) → AreChildren leaving ks s → (q place : ℕ) → 1 ≤ due pend q place → child_at s place ≡ None
  none_yet leaving children q place le = ⊎_elim
      (λ none. none)
      (λ some. absurd (
      let all = places.kids q place in
      let parent = child_by_place leaving children q place some.0 some.1 (omega (arith, le, all)) in
      let k = kid_loads q place some.0 some.1 parent in
      let o = places.once q place in
      let g = given_most next place in
      omega (arith, k, le, o, g)))
      (option_cases (child_at s place))

  -- what is so of one hold at a place is so of each hold there, of any instance
  pub held_alone : (p : Program) → ((n : ℕ) (x : Shown) → shown_of s n ≡ Some x → IsShown p ks n x) → (Q : Hold → Type 0) (place q : ℕ) (x : Shown) → shown_of s q ≡ Some x →
      Any (λ h. (h.place ≡ place) × Q h) (holds_in p ks q x) → (r : ℕ) (y : Shown) → shown_of s r ≡ Some y → Each (λ h. h.place ≡ place → Q h) (holds_in p ks r y)
  held_alone p shown Q place q x is any r y there =
      ⊎_elim
      (λ same.
      let one_shown : x ≡ y = same_Some x y (sym is ∙ (ap (shown_of s) same ∙ there)) in
      each_alone place Q (holds_in p ks r y) most
      (subst (λ z. Any (λ h. (h.place ≡ place) × Q h) (holds_in p ks r z)) one_shown (subst (λ z. Any (λ h. (h.place ≡ place) × Q h) (holds_in p ks z x)) same any)))
      (λ other. none_at place Q (holds_in p ks r y) (none other))
      (cases_eq q r)
    where
      held : 1 ≤ count place (places_all (parts_of s q))
      held = subst (λ z. 1 ≤ count place z) (held_places p ks s q x is (shown q x is)) (any_counts place Q (holds_in p ks q x) any)

      own : count place (places_held (holds_in p ks r y)) ≡ count place (places_all (parts_of s r))
      own = ap (count place) (held_places p ks s r y there (shown r y there))

      most : count place (places_held (holds_in p ks r y)) ≤ 1
      most = let o = places.once r place in let g = given_most next place in let e = own in omega (arith, o, g, e)

      none : q ≢ r → count place (places_held (holds_in p ks r y)) ≤ 0
      none other = let a = places.apart q r place other in let g = given_most next place in let e = own in let h = held in omega (arith, a, g, e, h)
