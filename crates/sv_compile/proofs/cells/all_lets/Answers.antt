use Rattle.std.proofs.Common.{◌∙◌}
use Rattle.sv_compile.proofs.Ordering.{next_lets}
use Rattle.sv_compile.proofs.cells.all_lets.Goals as goal

pub loop-stmt-preserved : goal.loop-stmt-preserved
loop-stmt-preserved c =
    c.loop-stmt.invariant ∙ next_lets c.args.stmts.now c.loop-stmt.stmt-index c.stmt-item.result c.loop-stmt.names c.add_lets.new.names c.loop-stmt-test.true c.stmt-item.is c.in_ok-add_lets.ensures
