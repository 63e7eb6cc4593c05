use Rattle.std.proofs.Common.{◌≡◌, ◌++◌, drop}
use Rattle.sv_resolve.specs.Cells.{variables, constants}
use Rattle.sv_resolve.proofs.cells.add_declared.Given as goal

abbrev pub invariant-loop-declared : goal.invariant-loop-declared
invariant-loop-declared l = record {
  cells : l.fn.scopes.cells ++ variables l.declares ≡ l.scopes.cells ++ variables (drop l.declared-index l.declares);
  constants : l.fn.scopes.constants ++ constants l.declares ≡ l.scopes.constants ++ constants (drop l.declared-index l.declares);
}
