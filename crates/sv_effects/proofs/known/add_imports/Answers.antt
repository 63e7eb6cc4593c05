use Rattle.std.proofs.Common.{◌∙◌}
use Rattle.sv_effects.specs.Known.{stmt_imported}
use Rattle.sv_effects.proofs.Knowing.{points_more}
use Rattle.sv_effects.proofs.known.add_imports.Goals as goal

pub loop-stmt-preserved : goal.loop-stmt-preserved
loop-stmt-preserved c =
    c.loop-stmt.invariant
    ∙ points_more (stmt_imported c.args.files.now c.args.given.now) _ _ c.args.stmts.now c.loop-stmt.stmt-index c.stmt-item.result c.loop-stmt-test.true c.stmt-item.is c.in_ok-add_stmt.ensures
