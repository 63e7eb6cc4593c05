use Rattle.std.proofs.Common.{◌≡◌, drop}
use Rattle.sv_names.specs.Distinct.{with_names}
use Rattle.sv_imports.specs.Given.{all_exported}
use Rattle.sv_imports.proofs.given.add_all.Given as goal

abbrev pub invariant-loop-stmt : goal.invariant-loop-stmt
invariant-loop-stmt l = with_names l.fn.given (all_exported l.stmts) ≡ with_names l.given (all_exported (drop l.stmt-index l.stmts))
