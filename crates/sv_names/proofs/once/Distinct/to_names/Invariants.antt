use Rattle.std.proofs.Common.{◌≡◌, take, map}
use Rattle.sv_names.specs.Locals.{name_of}
use Rattle.sv_names.proofs.once.Distinct.to_names.Given as goal

abbrev pub invariant-loop-name : goal.invariant-loop-name
invariant-loop-name l = l.list ≡ map name_of (take l.name-index l.self)
