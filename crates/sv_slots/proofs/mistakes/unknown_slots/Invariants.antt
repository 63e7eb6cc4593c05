use Rattle.std.proofs.Common.{◌≡◌, ◌++◌}
use Rattle.std.specs.List.{flat_map}
use Rattle.std.specs.Slice.Iter.{iter_rest}
use Rattle.sv_slots.specs.Slots.{wrong_slot}
use Rattle.sv_slots.proofs.mistakes.unknown_slots.Given as goal

abbrev pub invariant-loop-site : goal.invariant-loop-site
invariant-loop-site l = flat_map (wrong_slot l.all l.own) l.own.sites ≡ l.places ++ flat_map (wrong_slot l.all l.own) (iter_rest l.site-iterator)
