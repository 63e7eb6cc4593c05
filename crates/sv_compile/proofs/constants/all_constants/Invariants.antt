use Rattle.std.proofs.Common.{◌≡◌, ◌++◌, drop}
use Rattle.sv_compile.specs.Constants.{all_constants}
use Rattle.sv_compile.proofs.constants.all_constants.Given as goal

abbrev pub invariant-loop-stmt : goal.invariant-loop-stmt
invariant-loop-stmt l = all_constants l.stmts ≡ l.names ++ all_constants (drop l.stmt-index l.stmts)
