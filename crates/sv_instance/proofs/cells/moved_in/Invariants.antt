use Rattle.std.proofs.Common.{◌≡◌, ℕ, ◌<◌, map, length}
use Rattle.sv_instance.specs.Cells.{has_moved, cell_at}
use Rattle.sv_instance.specs.Slots.{slots_now, seen_at}
use Rattle.sv_instance.specs.Dirty.{is_among}
use Rattle.sv_instance.proofs.cells.moved_in.Given as goal

abbrev pub invariant-loop-at : goal.invariant-loop-at
invariant-loop-at l = record { long : length l.flags ≡ 256; told : (cell : ℕ) → cell < l.at → is_among l.flags cell ≡ has_moved (cell_at (map seen_at l.slots) cell) (cell_at (slots_now l.slots) cell) }
