use Rattle.std.proofs.Common.{◌≡◌, drop}
use Rattle.sv_names.specs.Distinct.{firsts, with_names}
use Rattle.sv_resolve.specs.Cells.{variables}
use Rattle.sv_check.proofs.cells.variables.Given as goal

abbrev pub invariant-loop-declared : goal.invariant-loop-declared
invariant-loop-declared l = firsts (variables l.declares) ≡ with_names l.names (variables (drop l.declared-index l.declares))
