use Rattle.std.proofs.Common.{◌∙◌}
use Rattle.sv_deps.proofs.Counting.{among_from_onward}
use Rattle.sv_deps.proofs.looks.in_order.Goals as goal

pub loop-n-preserved : goal.loop-n-preserved
loop-n-preserved c =
    c.loop-n.invariant ∙ among_from_onward c.loop-n.n c.args.count c.args.numbers.now c.loop-n.list c.add_if.new.numbers c.is_there.result c.loop-n-test.true c.is_there.ensures c.in_ok-add_if.ensures
