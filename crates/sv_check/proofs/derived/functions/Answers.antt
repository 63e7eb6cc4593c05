use Rattle.std.proofs.Common.{◌∙◌}
use Rattle.sv_check.specs.Derived.{unary}
use Rattle.sv_check.proofs.Once.{names_more}
use Rattle.sv_check.proofs.derived.functions.Goals as goal

pub loop-stmt-preserved : goal.loop-stmt-preserved
loop-stmt-preserved c =
    c.loop-stmt.invariant ∙ names_more c.args.stmts.now c.loop-stmt.stmt-index c.stmt-item.result c.loop-stmt-test.true c.stmt-item.is unary c.loop-stmt.names c.add_function.new.names c.in_ok-add_function.ensures
