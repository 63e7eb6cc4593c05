use Rattle.std.proofs.Common.{◌≡◌, map, drop}
use Rattle.sv_names.specs.Distinct.{firsts, with_names}
use Rattle.sv_names.specs.Locals.{name_of}
use Rattle.sv_deps.proofs.looks.each_once.Given as goal

abbrev pub invariant-loop-name : goal.invariant-loop-name
invariant-loop-name l = (l.list ≡ map name_of l.known) × (firsts l.names ≡ with_names l.known (drop l.name-index l.names))
