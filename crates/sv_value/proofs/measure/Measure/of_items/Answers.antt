use Rattle.std.proofs.Common.{arith}
use Rattle.sv_value.proofs.Items.{depths_more, sizes_more}
use Rattle.sv_value.proofs.measure.Measure.of_items.Goals as goal

pub loop-item-preserved : goal.loop-item-preserved
loop-item-preserved c =
    let deeper = depths_more c.args.items.now c.loop-item.item-index c.item-item.result (omega arith) c.item-item.is in
    let larger = sizes_more c.args.items.now c.loop-item.item-index c.item-item.result (omega arith) c.item-item.is in
    record { deepest = omega (arith, deeper); total = omega (arith, larger) }
