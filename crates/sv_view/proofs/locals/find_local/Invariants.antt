use Rattle.std.proofs.Common.{◌≡◌, drop}
use Rattle.sv_view.specs.Local.{local_at}
use Rattle.sv_view.proofs.locals.find_local.Given as goal

abbrev pub invariant-loop-local : goal.invariant-loop-local
invariant-loop-local l = local_at l.locals l.name.0 ≡ local_at (drop l.local-index l.locals) l.name.0
