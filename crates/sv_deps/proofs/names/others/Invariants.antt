use Rattle.std.proofs.Common.{◌≡◌, take, not}
use Rattle.std.specs.Prelude.{filter}
use Rattle.sv_names.specs.Distinct.{has}
use Rattle.sv_names.specs.Locals.{names_of}
use Rattle.sv_deps.proofs.names.others.Given as goal

abbrev pub invariant-loop-name : goal.invariant-loop-name
invariant-loop-name l = l.others ≡ filter (λ name. not (has name (names_of l.locals))) (take l.name-index l.names)
