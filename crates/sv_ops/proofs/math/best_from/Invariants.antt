use Rattle.std.proofs.Common.{◌≡◌, map, drop}
use Rattle.sv_value.specs.View.{view_of}
use Rattle.sv_ops.specs.Math.{best_from, order}
use Rattle.sv_ops.proofs.math.best_from.Given as goal

abbrev pub invariant-loop-value : goal.invariant-loop-value
invariant-loop-value l = best_from (order l.greatest) l.fn.first (map view_of l.values) ≡ best_from (order l.greatest) l.best (map view_of (drop l.value-index l.values))
