use Rattle.std.proofs.Common.{◌∙◌}
use Rattle.sv_plan.proofs.Going.{looked-up, row-stays, row-goes, rows-end}
use Rattle.sv_plan.proofs.lists.destroy_rows.Goals as goal

pub loop-index-preserved-then-is_found : goal.loop-index-preserved-then-is_found
loop-index-preserved-then-is_found c =
    let found = looked-up c.args.keys.now _ _ c.args.rows.now c.loop-index.index c.index-rows-index.result _ c.loop-index-test.true c.index-rows-index.is c.is_found.ensures (c.deref.ensures.value ∙ c.in_ok-places.ensures) (c.as_slice.ensures ∙ c.in_ok-olds.ensures) in
    row-stays c.args.keys.now c.args.rows.now c.loop-index.index c.index-rows-index.result _ _ c.loop-index.invariant c.loop-index-test.true c.index-rows-index.is _ found c.if-is_found.true

pub loop-index-preserved : goal.loop-index-preserved
loop-index-preserved c =
    let found = looked-up c.args.keys.now _ _ c.args.rows.now c.loop-index.index c.index-rows-index.result _ c.loop-index-test.true c.index-rows-index.is c.is_found.ensures (c.deref.ensures.value ∙ c.in_ok-places.ensures) (c.as_slice.ensures ∙ c.in_ok-olds.ensures) in
    row-goes c.args.keys.now c.args.rows.now c.loop-index.index c.index-rows-index.result _ _ c.loop-index.invariant c.loop-index-test.true c.index-rows-index.is _ found c.if-is_found.false _ _ c.as_slice-in-loop-index.ensures c.in-Ok.ensures

pub returns : goal.returns
returns c = rows-end c.args.keys.now c.args.rows.now c.loop-index.index _ _ c.loop-index.invariant c.loop-index-test.false
