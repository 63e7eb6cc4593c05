use Rattle.std.proofs.Common.{◌≡◌, ◌++◌, drop}
use Rattle.std.specs.List.{flat_map}
use Rattle.sv_compile.specs.Constants.{givens, imported}
use Rattle.sv_compile.proofs.constants.givens.Given as goal

abbrev pub invariant-loop-stmt : goal.invariant-loop-stmt
invariant-loop-stmt l = givens l.bundle.names l.bundle.files l.stmts ≡ l.given ++ flat_map (imported l.bundle.names l.bundle.files) (drop l.stmt-index l.stmts)
