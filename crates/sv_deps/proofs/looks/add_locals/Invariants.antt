use Rattle.std.proofs.Common.{◌≡◌, ◌++◌, drop}
use Rattle.sv_names.specs.Locals.{names_of}
use Rattle.sv_deps.specs.Looks.{others}
use Rattle.sv_deps.proofs.looks.add_locals.Given as goal

abbrev pub invariant-loop-name : goal.invariant-loop-name
invariant-loop-name l = l.fn.locals ++ others (names_of l.own) l.more ≡ l.locals ++ others (names_of l.own) (drop l.name-index l.more)
