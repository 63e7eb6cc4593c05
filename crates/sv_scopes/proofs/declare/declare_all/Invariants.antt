use Rattle.std.proofs.Common.{drop}
use Rattle.sv_scopes.specs.Script.{locals}
use Rattle.sv_scopes.proofs.Leaving.{Leaves}
use Rattle.sv_scopes.proofs.declare.declare_all.Given as goal

abbrev pub invariant-loop-name : goal.invariant-loop-name
invariant-loop-name l = Leaves l.fn.found l.found (locals l.names) (locals (drop l.name-index l.names))
