use Rattle.std.proofs.Common.{◌≡◌, ◌++◌, map, drop}
use Rattle.sv_value.specs.View.{view_of}
use Rattle.sv_ops.proofs.members.copy_items.Given as goal

abbrev pub invariant-loop-item : goal.invariant-loop-item
invariant-loop-item l = map view_of l.made.items ++ map view_of (drop l.item-index l.items) ≡ map view_of l.fn.made.items ++ map view_of l.items
