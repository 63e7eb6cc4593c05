use Rattle.std.proofs.Common.{◌≡◌, [], drop}
use Rattle.sv_names.specs.Distinct.{with_names}
use Rattle.sv_effects.specs.Top.{variables}
use Rattle.sv_effects.proofs.top.variables.Given as goal

abbrev pub invariant-loop-stmt : goal.invariant-loop-stmt
invariant-loop-stmt l = with_names [] (variables l.stmts) ≡ with_names l.variables (variables (drop l.stmt-index l.stmts))
