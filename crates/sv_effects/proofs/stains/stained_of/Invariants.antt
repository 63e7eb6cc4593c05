use Rattle.std.proofs.Common.{◌≡◌, ◌++◌, drop}
use Rattle.sv_effects.specs.Calls.{points_from}
use Rattle.sv_effects.specs.Stains.{is_stained}
use Rattle.sv_effects.proofs.stains.stained_of.Given as goal

abbrev pub invariant-loop-point : goal.invariant-loop-point
invariant-loop-point l = points_from (is_stained l.bundle) 0 l.functions ≡ l.stained.items ++ points_from (is_stained l.bundle) l.point (drop l.point l.functions)
