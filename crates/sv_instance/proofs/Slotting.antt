-- One slot of a list written.
use Rattle.std.proofs.Common.{◌≡◌, ℕ, zero, suc, ◌+◌, ◌<◌, List, [], ◌∷◌, ◌++◌, map, length, take, get_or, slice_set, refl, sym, ap, ◌∙◌, arith, true, false, Bool, Option, Some, None}
use Rattle.std.specs.Prelude.{IsTrue}
use Rattle.std.proofs.lemmas.List.{map-set, map-append, take_more_set}
use Rattle.sv_view.specs.Cell.{Cell}
use Rattle.sv_instance.specs.Cells.{cell_at}
use Rattle.sv_instance.specs.Slots.{now_of, seen_at, kept_or, slots_now, slots_seen}
use Rattle.sv_instance.specs.declared.cells.Slot.{Slot}

held_at : (slots : List Slot) (at : ℕ) (d : Slot) → at < length slots → (get_or slots at d).held ≡ cell_at (slots_now slots) at
held_at [] at d h = absurd (omega arith)
held_at (s ∷ slots) zero d h = refl
held_at (s ∷ slots) (suc at) d h = held_at slots at d (omega arith)

map-same : {A B : Type 0} (f : A → B) (xs : List A) (n : ℕ) (d y : A) → n < length xs → f y ≡ f (get_or xs n d) → map f (slice_set xs n y) ≡ map f xs
map-same f [] n d y h e = refl
map-same f (z ∷ xs) zero d y h e = ap (λ w. w ∷ map f xs) e
map-same f (z ∷ xs) (suc n) d y h e = ap (λ w. f z ∷ w) (map-same f xs n d y (omega arith) e)

-- what the cells hold is changed at one place
pub now-set : (f : Option Cell → Option Cell) (slots : List Slot) (at : ℕ) (d y : Slot) → at < length slots → y.held ≡ f (get_or slots at d).held → slots_now (slice_set slots at y) ≡ slice_set (slots_now slots) at (f (cell_at (slots_now slots) at))
now-set f slots at d y h e = map-set now_of slots at y ∙ ap (slice_set (slots_now slots) at) (e ∙ ap f (held_at slots at d h))

-- what was seen stays
pub seen-set : (shown : Bool) (slots : List Slot) (at : ℕ) (d y : Slot) → at < length slots → (IsTrue shown → seen_at y ≡ seen_at (get_or slots at d)) → slots_seen shown (slice_set slots at y) ≡ slots_seen shown slots
seen-set true slots at d y h e = ap Some (map-same seen_at slots at d y h (e refl))
seen-set false slots at d y h e = refl

-- one slot more forgets what it held
module _ (slots : List Slot) (at : ℕ) (y : Slot) (inside : at < length slots) where
  pub forget-now : (d : Slot) (old : List (Option Cell)) → y.held ≡ (get_or slots at d).held → slots_now slots ≡ old → slots_now (slice_set slots at y) ≡ old
  forget-now d old e is = map-same now_of slots at d y inside e ∙ is

  pub forget-seen : y.kept ≡ None → map seen_at (take at slots) ≡ slots_now (take at slots) → map seen_at (take (at + 1) (slice_set slots at y)) ≡ slots_now (take (at + 1) (slice_set slots at y))
  forget-seen none e =
      let both = take_more_set slots at y inside in
      ap (map seen_at) both ∙ map-append seen_at (take at slots) (y ∷ [])
      ∙ ap (λ l. l ++ seen_at y ∷ []) e ∙ ap (λ c. slots_now (take at slots) ++ kept_or c y.held ∷ []) none
      ∙ sym (map-append now_of (take at slots) (y ∷ [])) ∙ sym (ap slots_now both)
