use Rattle.std.proofs.Common.{◌≡◌, ◌+◌, ◌*◌, map, take}
use Rattle.sv_value.specs.Value.{depth, depths, field_depths}
use Rattle.sv_value.specs.View.{view_of, entry_of}
use Rattle.sv_value.proofs.compare.+same.Given as goal

abbrev pub decreases-same : goal.decreases-same
decreases-same l = 2 * depth (view_of l.a.now)

abbrev pub decreases-same_items : goal.decreases-same_items
decreases-same_items l = 2 * depths l.a.now + 1

abbrev pub decreases-same_fields : goal.decreases-same_fields
decreases-same_fields l = 2 * field_depths l.a.now + 1

-- the items so far are the same
abbrev pub invariant-same_items-loop-i : goal.invariant-same_items-loop-i
invariant-same_items-loop-i l = map view_of (take l.i l.left) ≡ map view_of (take l.i l.right)

-- the fields so far are the same
abbrev pub invariant-same_fields-loop-i : goal.invariant-same_fields-loop-i
invariant-same_fields-loop-i l = map entry_of (take l.i l.left) ≡ map entry_of (take l.i l.right)
