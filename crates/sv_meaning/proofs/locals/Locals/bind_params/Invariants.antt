use Rattle.std.proofs.Common.{◌≡◌, ◌++◌, drop, map}
use Rattle.sv_value.specs.View.{view_of}
use Rattle.sv_meaning.specs.Env.{bound, params}
use Rattle.sv_meaning.proofs.locals.Locals.bind_params.Given as goal

abbrev pub invariant-loop-i : goal.invariant-loop-i
invariant-loop-i l = l.fn.self ++ bound (params l.named) (map view_of l.values) ≡ l.self ++ bound (params (drop l.i l.named)) (map view_of (drop l.i l.values))
