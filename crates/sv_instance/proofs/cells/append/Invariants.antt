use Rattle.std.proofs.Common.{◌≡◌, take, ◌++◌}
use Rattle.sv_instance.specs.Cells.{present}
use Rattle.sv_instance.specs.Slots.{slots_now}
use Rattle.sv_instance.proofs.cells.append.Given as goal

abbrev pub invariant-loop-slot : goal.invariant-loop-slot
invariant-loop-slot l = l.cells.items ≡ l.initial.cells.items ++ present (slots_now (take l.slot-index l.slots))
