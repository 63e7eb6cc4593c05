-- Cells that are no later than others.
use Rattle.std.proofs.Common.{◌≡◌, ℕ, zero, suc, List, [], ◌∷◌, length, Option, Some, None, refl, sym, ap, ◌∙◌, arith, slice_get}
use Rattle.sv_flush.specs.Lent.{ArePast, SameByCount}
use Rattle.sv_frame.specs.Snapshots.{snapshot_of}
use Rattle.sv_instance.specs.Cells.{cell_at, count_of, cell_or_new, present}
use Rattle.sv_instance.specs.declared.instance.Instance.{Instance}
use Rattle.sv_states.proofs.Later.{later_same}
use Rattle.sv_states.specs.Sound.{IsLater, IsSeen}
use Rattle.sv_states.specs.Waiting.{shown}
use Rattle.sv_view.specs.Cell.{Cell}

later_then : (a b c : Option Cell) → IsLater a b → IsLater b c → IsLater a c
later_then a b c h k = record {
  least = let l = h.least in let g = k.least in omega (arith, l, g);
  same = λ e.
      let l = h.least in
      let g = k.least in
      let one : count_of a ≡ count_of b = omega (arith, l, g, e) in
      let two : count_of b ≡ count_of c = omega (arith, l, g, e) in
      h.same one ∙ k.same two;
}

-- ---- cells as views have them

new_count : (o : Option Cell) → count_of (Some (cell_or_new o)) ≡ count_of o
new_count None = refl
new_count (Some c) = refl

later_new : (a b : Option Cell) → IsLater a b → IsLater (Some (cell_or_new a)) (Some (cell_or_new b))
later_new a b h = record {
  least = let l = h.least in let p = new_count a in let q = new_count b in omega (arith, l, p, q);
  same = λ e. ap (λ o. Some (cell_or_new o)) (h.same (sym (new_count a) ∙ (e ∙ new_count b)));
}

later-present : (old now : List (Option Cell)) → length old ≡ length now → ((c : ℕ) → IsLater (cell_at old c) (cell_at now c)) → (c : ℕ) → IsLater (slice_get (present old) c) (slice_get (present now) c)
later-present [] [] e h c = later_same None
later-present [] (y ∷ now) e h c = absurd (omega (arith, e))
later-present (x ∷ old) [] e h c = absurd (omega (arith, e))
later-present (x ∷ old) (y ∷ now) e h zero = later_new x y (h zero)
later-present (x ∷ old) (y ∷ now) e h (suc c) = later-present old now (omega (arith, e)) (λ d. h (suc d)) c

-- ---- levels of an instance

module _ (i : Instance) (seen : IsSeen (Some i)) (cells : List Cell) (past : ArePast (snapshot_of i) cells) where
  -- they are no later than its present cells
  pub later_now : (c : ℕ) → IsLater (slice_get cells c) (slice_get (present i.cells.now) c)
  later_now c = later_then (slice_get cells c) (slice_get (present past.old) c) (slice_get (present i.cells.now) c) (past.later c) (later-present past.old i.cells.now past.whole (seen past.old past.seen) c)

  -- nor than its next snapshot
  pub past_shown : ArePast (snapshot_of (shown i)) cells
  past_shown = record { old = i.cells.now; seen = refl; whole = refl; later = later_now }

  pub same_now : SameByCount cells (present i.cells.now)
  same_now c = (later_now c).same

-- present cells that were seen
pub present_past : (i : Instance) → i.cells.seen ≡ Some i.cells.now → ArePast (snapshot_of i) (present i.cells.now)
present_past i is = record { old = i.cells.now; seen = is; whole = refl; later = λ c. later_same (slice_get (present i.cells.now) c) }

pub same_back : (a b : List Cell) → SameByCount a b → SameByCount b a
same_back a b h c e = sym (h c (sym e))
