use Rattle.sv_order.proofs.Tabling.{knows-none, knows-more, knows-all}
use Rattle.sv_order.proofs.names.assigned_names.Goals as goal

pub loop-statement-init : goal.loop-statement-init
loop-statement-init c = knows-none _

pub loop-statement-preserved : goal.loop-statement-preserved
loop-statement-preserved c = knows-more c.args.list.now _ _ _ c.loop-statement.statement-index c.statement-item.result c.loop-statement-test.true c.statement-item.is c.loop-statement.invariant c.as_slice.ensures c.in_ok-add_names.ensures

pub returns : goal.returns
returns c = knows-all c.args.list.now _ c.loop-statement.statement-index c.loop-statement-test.false c.loop-statement.invariant
