use Rattle.std.proofs.Common.{◌≡◌, map, take}
use Rattle.std.specs.Prelude.{filter}
use Rattle.sv_names.specs.Locals.{name_of, names_of}
use Rattle.sv_deps.specs.Reading.{counts_as_local}
use Rattle.sv_deps.proofs.names.all_locals.Given as goal

abbrev pub invariant-loop-name : goal.invariant-loop-name
invariant-loop-name l = l.list ≡ map name_of (filter (counts_as_local l.tops (names_of l.locals)) (take l.name-index l.names))
