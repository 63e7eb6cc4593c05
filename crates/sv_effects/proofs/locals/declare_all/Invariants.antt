use Rattle.std.proofs.Common.{◌≡◌, map, drop}
use Rattle.sv_names.specs.Distinct.{with_names}
use Rattle.sv_names.specs.Uses.{named}
use Rattle.sv_effects.proofs.locals.declare_all.Given as goal

abbrev pub invariant-loop-name : goal.invariant-loop-name
invariant-loop-name l = with_names l.fn.locals (map named l.names) ≡ with_names l.locals (map named (drop l.name-index l.names))
