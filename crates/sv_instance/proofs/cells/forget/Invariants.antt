use Rattle.std.proofs.Common.{◌≡◌, take, map}
use Rattle.sv_instance.specs.Slots.{slots_now, seen_at}
use Rattle.sv_instance.proofs.cells.forget.Given as goal

abbrev pub invariant-loop-slot : goal.invariant-loop-slot
invariant-loop-slot l = record { now : slots_now l.slots ≡ slots_now l.initial.slots; seen : map seen_at (take l.slot-index l.slots) ≡ slots_now (take l.slot-index l.slots) }
