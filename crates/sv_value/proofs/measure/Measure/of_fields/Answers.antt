use Rattle.std.proofs.Common.{arith, ap, length}
use Rattle.sv_value.proofs.Pairs.{field_depths_more, field_sizes_more}
use Rattle.sv_value.proofs.measure.Measure.of_fields.Goals as goal

pub loop-pair-preserved : goal.loop-pair-preserved
loop-pair-preserved c =
    let deeper = field_depths_more c.args.pairs.now c.loop-pair.pair-index c.pair-item.result (omega arith) c.pair-item.is in
    let larger = field_sizes_more c.args.pairs.now c.loop-pair.pair-index c.pair-item.result (omega arith) c.pair-item.is in
    record { deepest = omega (arith, deeper); total = omega (arith, larger, ap length c.as_str.ensures) }
