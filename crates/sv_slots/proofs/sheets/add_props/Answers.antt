use Rattle.std.proofs.Common.{◌∙◌}
use Rattle.sv_slots.proofs.Naming.{props_more}
use Rattle.sv_slots.proofs.sheets.add_props.Goals as goal

pub loop-stmt-preserved : goal.loop-stmt-preserved
loop-stmt-preserved c =
    c.loop-stmt.invariant ∙ props_more c.loop-stmt.props c.add_exported.new.props c.args.stmts.now c.loop-stmt.stmt-index c.stmt-item.result c.loop-stmt-test.true c.stmt-item.is c.in_ok-add_exported.ensures
