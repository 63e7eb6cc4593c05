use Rattle.std.proofs.Common.{◌≡◌, ◌++◌, take}
use Rattle.sv_meaning.specs.Env.{opened}
use Rattle.sv_meaning.proofs.locals.Locals.open_all.Given as goal

abbrev pub invariant-loop-name : goal.invariant-loop-name
invariant-loop-name l = l.self ≡ l.fn.self ++ opened (take l.name-index l.names)
