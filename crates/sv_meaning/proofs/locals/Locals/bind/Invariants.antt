use Rattle.std.proofs.Common.{◌≡◌, ◌++◌, drop, map}
use Rattle.sv_value.specs.View.{view_of}
use Rattle.sv_meaning.specs.Env.{bound, numbers}
use Rattle.sv_meaning.proofs.locals.Locals.bind.Given as goal

abbrev pub invariant-loop-i : goal.invariant-loop-i
invariant-loop-i l = l.fn.self ++ bound (numbers l.names) (map view_of l.values) ≡ l.self ++ bound (numbers (drop l.i l.names)) (map view_of (drop l.i l.values))
