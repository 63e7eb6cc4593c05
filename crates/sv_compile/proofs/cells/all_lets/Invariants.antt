use Rattle.std.proofs.Common.{◌≡◌, drop}
use Rattle.sv_compile.specs.TopLevel.{all_lets}
use Rattle.sv_names.specs.Distinct.{firsts, with_names}
use Rattle.sv_compile.proofs.cells.all_lets.Given as goal

abbrev pub invariant-loop-stmt : goal.invariant-loop-stmt
invariant-loop-stmt l = firsts (all_lets l.stmts) ≡ with_names l.names (all_lets (drop l.stmt-index l.stmts))
