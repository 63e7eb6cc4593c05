-- Each instance that has a parent stands once in what the parent shows, and each tag of a component there has its child.
use Rattle.std.proofs.Common.{◌≡◌, ℕ, [], Some, None, arith, ⊎_elim}
use Rattle.sv_code.proofs.Each.{each_mono}
use Rattle.sv_code.specs.Names.{Each}
use Rattle.sv_code.specs.declared.program.Program.{Program}
use Rattle.sv_family.proofs.Held.{given_most}
use Rattle.sv_family.proofs.Kids.{kid-counts}
use Rattle.sv_family.specs.Family.{Family, AreFilled, HasChild, StandsIn, holds_in}
use Rattle.sv_family.specs.Kin.{Kins, parent_at}
use Rattle.sv_places.specs.Keeping.{parts_of}
use Rattle.sv_places.specs.Numbers.{count}
use Rattle.sv_shapes.specs.Places.{places_all}
use Rattle.sv_shapes.specs.Showing.{Showing, child_at, shown_of}
use Rattle.sv_shapes.specs.declared.shown.Shown.{Shown}

module _ (p : Program) (ks : Kins) (s : Showing) (next : ℕ) (h : Family p [] None [] ks s next) where
  stands_at : (n q place : ℕ) → parent_at ks n ≡ Some q → child_at s place ≡ Some n → count place (places_all (parts_of s q)) ≡ 1
  stands_at n q place parent there =
      let kid = kid-counts ks s q place n there parent in
      let kids = h.places.kids q place in
      let once = h.places.once q place in
      let most = given_most next place in
      omega (arith, kid, kids, once, most)

  pub stands_in : (n q : ℕ) → parent_at ks n ≡ Some q → StandsIn s q n
  stands_in n q parent = ⊎_elim
      (λ none. absurd none)
      (λ at. record { place = at.0; there = at.1; shown = stands_at n q at.0 parent at.1 })
      (h.children.stand n q parent)

-- where no effect is still to run, the child of each tag stands there
pub children_stand : (p : Program) (ks : Kins) (s : Showing) → AreFilled p [] [] ks s → (q : ℕ) (x : Shown) → shown_of s q ≡ Some x → Each (HasChild p s) (holds_in p ks q x)
children_stand p ks s filled q x is = ⊎_elim
    (λ none. absurd none)
    (λ all. each_mono _ (HasChild p s) (λ h k t c tag comp. ⊎_elim (λ there. there) (λ none. absurd none) (k t c tag comp)) (holds_in p ks q x) all)
    (filled q x is)
