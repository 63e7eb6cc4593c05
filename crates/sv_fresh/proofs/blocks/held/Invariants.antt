use Rattle.std.proofs.Common.{◌≡◌, map, take}
use Rattle.sv_value.specs.View.{view_of}
use Rattle.sv_fresh.proofs.blocks.held.Given as goal

abbrev pub invariant-loop-value : goal.invariant-loop-value
invariant-loop-value l = l.items ≡ map view_of (take l.value-index l.values)
