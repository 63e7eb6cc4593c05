use Rattle.sv_order.proofs.Tabling.{keeps-none, keeps-more, keeps-all}
use Rattle.sv_order.proofs.names.add_names.Goals as goal

pub loop-name-init : goal.loop-name-init
loop-name-init c = keeps-none _

pub loop-name-preserved : goal.loop-name-preserved
loop-name-preserved c = keeps-more _ c.args.more.now _ _ c.loop-name.name-index _ c.loop-name-test.true c.loop-name.invariant c.in_ok-insert.ensures.keys

pub returns : goal.returns
returns c = keeps-all _ c.args.more.now _ c.loop-name.name-index c.loop-name-test.false c.loop-name.invariant
