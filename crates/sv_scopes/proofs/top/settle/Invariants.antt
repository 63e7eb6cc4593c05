use Rattle.std.proofs.Common.{◌≡◌, ◌++◌, drop}
use Rattle.sv_scopes.specs.Files.{settled, declaring_on}
use Rattle.sv_scopes.proofs.top.settle.Given as goal

abbrev pub invariant-loop-declared : goal.invariant-loop-declared
invariant-loop-declared l = settled l.declares ≡ l.top ++ declaring_on l.known (drop l.declared-index l.declares)
