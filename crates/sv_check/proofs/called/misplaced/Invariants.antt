use Rattle.std.proofs.Common.{◌≡◌, ◌++◌, drop}
use Rattle.sv_check.specs.Called.{misplaced}
use Rattle.sv_check.proofs.called.misplaced.Given as goal

abbrev pub invariant-loop-found : goal.invariant-loop-found
invariant-loop-found l = misplaced l.names l.sought l.free l.uses ≡ l.places ++ misplaced l.names l.sought l.free (drop l.found-index l.uses)
