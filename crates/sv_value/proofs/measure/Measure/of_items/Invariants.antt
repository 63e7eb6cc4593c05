use Rattle.std.proofs.Common.{map, take}
use Rattle.sv_value.specs.Value.{vals, depths, sizes}
use Rattle.sv_value.specs.View.{view_of}
use Rattle.sv_value.specs.Measured.{Measures}
use Rattle.sv_value.proofs.measure.Measure.of_items.Given as goal

-- the items so far are measured
abbrev pub invariant-loop-item : goal.invariant-loop-item
invariant-loop-item l = let tree = vals (map view_of (take l.item-index l.items)) in Measures l.measure (depths tree) (sizes tree)
