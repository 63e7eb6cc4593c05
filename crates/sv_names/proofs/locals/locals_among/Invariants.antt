use Rattle.std.proofs.Common.{◌≡◌, take}
use Rattle.sv_names.specs.Locals.{names_of, locals_among}
use Rattle.sv_names.proofs.locals.locals_among.Given as goal

abbrev pub invariant-loop-name : goal.invariant-loop-name
invariant-loop-name l = l.own ≡ locals_among (names_of l.locals) (take l.name-index l.names)
