use Rattle.std.proofs.Common.{◌≡◌, ◌+◌, ◌<◌, map, drop}
use Rattle.sv_base.specs.declared.limits.TheConstants.{VALUE_SIZE_LIMIT}
use Rattle.sv_value.specs.Value.{vals, sizes}
use Rattle.sv_value.specs.View.{view_of}
use Rattle.sv_ops.specs.Lists.{searched_from}
use Rattle.sv_ops.proofs.lists.searched.Given as goal

abbrev pub invariant-loop-n : goal.invariant-loop-n
invariant-loop-n l = record {
  same : searched_from 0 0 (map view_of l.items) (view_of l.value) ≡ searched_from l.n l.cost (map view_of (drop l.n l.items)) (view_of l.value);
  small : l.cost + sizes (vals (map view_of (drop l.n l.items))) < VALUE_SIZE_LIMIT;
}
