use Rattle.std.proofs.Common.{◌∙◌}
use Rattle.sv_effects.proofs.Declared.{stmt_declared}
use Rattle.sv_effects.proofs.locals.declare_stmts.Goals as goal

pub loop-stmt-preserved : goal.loop-stmt-preserved
loop-stmt-preserved c = c.loop-stmt.invariant ∙ stmt_declared _ _ c.args.stmts.now c.loop-stmt.stmt-index c.stmt-item.result c.loop-stmt-test.true c.stmt-item.is c.in_ok-declare_stmt.ensures
