use Rattle.std.proofs.Common.{◌≡◌, drop}
use Rattle.sv_instance.specs.Bound.{bound_at}
use Rattle.sv_instance.specs.Binds.{bounds_of}
use Rattle.sv_instance.proofs.bounds.find_bound.Given as goal

abbrev pub invariant-loop-bound : goal.invariant-loop-bound
invariant-loop-bound l = bound_at (bounds_of l.list) l.cell ≡ bound_at (bounds_of (drop l.bound-index l.list)) l.cell
