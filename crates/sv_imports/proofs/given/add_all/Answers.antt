use Rattle.std.proofs.Common.{◌∙◌}
use Rattle.sv_imports.proofs.Naming.{exported_more}
use Rattle.sv_imports.proofs.given.add_all.Goals as goal

pub loop-stmt-preserved : goal.loop-stmt-preserved
loop-stmt-preserved c =
    c.loop-stmt.invariant ∙ exported_more c.loop-stmt.given c.add_exported.new.given c.args.stmts.now c.loop-stmt.stmt-index c.stmt-item.result c.loop-stmt-test.true c.stmt-item.is c.in_ok-add_exported.ensures
