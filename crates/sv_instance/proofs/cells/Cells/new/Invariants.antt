use Rattle.std.proofs.Common.{◌≡◌, length, replicate, None}
use Rattle.sv_instance.specs.Slots.{slots_now}
use Rattle.sv_instance.proofs.cells.Cells.new.Given as goal

abbrev pub invariant-loop-number : goal.invariant-loop-number
invariant-loop-number l = record { none : slots_now l.slots.items ≡ replicate l._number None; count : length l.slots.items ≡ l._number }
