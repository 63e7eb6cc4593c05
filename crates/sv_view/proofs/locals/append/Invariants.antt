use Rattle.std.proofs.Common.{◌≡◌, take, ◌++◌}
use Rattle.sv_view.proofs.locals.append.Given as goal

abbrev pub invariant-loop-local : goal.invariant-loop-local
invariant-loop-local l = l.locals.items ≡ l.initial.locals.items ++ take l.local-index l.more
