-- What is known of views on a page.
use Rattle.std.proofs.Common.{◌≡◌, ℕ, List, Option, Some, None, refl, sym, ap, subst, ◌∙◌, ⊎_elim, inl, inr, unwrap_or, option_map, slice_get}
use Rattle.std.proofs.lemmas.Option.{same_Some}
use Rattle.sv_flush.proofs.Handing.{content_handed}
use Rattle.sv_flush.proofs.Holding.{shown-found}
use Rattle.sv_flush.proofs.Lending.{owners_held}
use Rattle.sv_flush.proofs.Past.{later_now, same_now, same_back}
use Rattle.sv_flush.proofs.Standing.{all_pass}
use Rattle.sv_flush.proofs.Tracking.{picture_at}
use Rattle.sv_flush.specs.Known.{IsKnown, AreKnown, PresentIsKnown, ShownIsKnown, LocalsAreKnown, ContentIsKnown, HeldIsPast, VersionsTellCells}
use Rattle.sv_flush.specs.Lent.{IsHeld, HoldsPast, SameByCount}
use Rattle.sv_flush.specs.declared.page.Page.{Page}
use Rattle.sv_frame.specs.Snapshots.{snapshot_of}
use Rattle.sv_instance.specs.Cells.{count_of, present}
use Rattle.sv_instance.specs.declared.instance.Instance.{Instance}
use Rattle.sv_states.specs.Sound.{IsSound, IsSeen}
use Rattle.sv_states.specs.States.{live}
use Rattle.sv_view.specs.Cell.{Cell}

pub present_known : PresentIsKnown
present_known m n i there k cells g =
    ⊎_elim (λ own. inr (i, (subst (λ j. live m.world.states j ≡ Some i) own.0 there, own.1))) (λ owner. inl (owners_held m.world.states n i there m.showing.shown k cells owner)) g

pub shown_known : ShownIsKnown
shown_known m n x is k cells g = inl (x.view, (inr (shown-found m.showing.shown n x is), g))

pub locals_known : LocalsAreKnown
locals_known m v locals h = h

pub content_known : ContentIsKnown
content_known m v lets props h = content_handed (AreKnown m) (all_pass (IsKnown m)) lets props v h

pub held_past : HeldIsPast
held_past m n cells i sound past held there =
    later_now i (subst IsSeen there (sound.seen n)) cells (past.past n cells (snapshot_of i) held (picture_at snapshot_of m.world.states n (Some i) there))

module _ (m : Page) (sound : IsSound m.world.states) (past : HoldsPast m) (n : ℕ) where
  abbrev IsPresent : List Cell → Type 0
  IsPresent cells = (i : Instance) × ((live m.world.states n ≡ Some i) × (present i.cells.now ≡ cells))

  held_present : (a b : List Cell) → IsHeld m n a → IsPresent b → SameByCount a b
  held_present a b h k =
      subst (SameByCount a) k.1.1
      (same_now k.0 (subst IsSeen k.1.0 (sound.seen n)) a (past.past n a (snapshot_of k.0) h (picture_at snapshot_of m.world.states n (Some k.0) k.1.0)))

  presents : (a b : List Cell) → IsPresent a → IsPresent b → SameByCount a b
  presents a b h k c e =
      let one : h.0 ≡ k.0 = same_Some h.0 k.0 (sym h.1.0 ∙ k.1.0) in
      ap (λ (cells : List Cell). slice_get cells c) (sym h.1.1 ∙ (ap (λ (i : Instance). present i.cells.now) one ∙ k.1.1))

  pub known-same : (a b : List Cell) → IsKnown m n a → IsKnown m n b → SameByCount a b
  known-same a b h k = ⊎_elim
      (λ p. ⊎_elim (λ q. past.same n a b p q) (λ q. held_present a b p q) k)
      (λ p. ⊎_elim (λ q. same_back b a (held_present b a q p)) (λ q. presents a b p q) k)
      h

pub count_is : (o : Option Cell) → count_of o ≡ unwrap_or (option_map (λ (cell : Cell). cell.count) o) 0
count_is None = refl
count_is (Some c) = refl

pub versions_tell : VersionsTellCells
versions_tell m v w sound past h k one c e =
    let there : IsKnown m v.own.inst w.own.cells = subst (λ j. IsKnown m j w.own.cells) (sym one) (k w.own.inst w.own.cells (inl (refl, refl))) in
    ap (option_map (λ (cell : Cell). cell.value))
    (known-same m sound past v.own.inst v.own.cells w.own.cells (h v.own.inst v.own.cells (inl (refl, refl))) there c
    (count_is (slice_get v.own.cells c) ∙ (e ∙ sym (count_is (slice_get w.own.cells c)))))
