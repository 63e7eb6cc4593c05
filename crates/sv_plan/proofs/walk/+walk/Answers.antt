use Rattle.std.proofs.Common.{sym, ap, ◌∙◌, arith, refl}
use Rattle.sv_plan.proofs.Planning.{meets-Text, meets-Show, meets-Element, meets-Tag, meets-Named, meets-Slot, meets-If, meets-Each, meets-Key, meets-given, list-begins, rows-more, rows-stop}
use Rattle.sv_parts.proofs.Steps.{done}
use Rattle.sv_plan.proofs.Weights.{weights, arms_weight, owed, frags_in, weight-Element, weight-Slot, weight-If, weight-Each, weight-Key, item-weight, body-weight, owed-content}
use Rattle.sv_plan.specs.Content.{seen}
use Rattle.sv_plan.specs.Lists.{head_of}
use Rattle.sv_plan.specs.Plan.{head, plan_all}
use Rattle.sv_parts.specs.Sides.{sides}
use Rattle.sv_plan.proofs.walk.+walk.Goals as goal

pub plan_content-plan_list-requires : goal.plan_content-plan_list-requires
plan_content-plan_list-requires t c =
    omega (arith, c.decreases, owed-content c.args.here.now.program.now c.args.here.now.tags.now c.as_str.result.now (seen c.in-Some.content) (sym c.in-Some.ensures), ap (owed c.args.here.now.program.now) c.outer_tags.ensures)

pub plan_content-returns-in_ok-new_view-in-Some : goal.plan_content-returns-in_ok-new_view-in-Some
plan_content-returns-in_ok-new_view-in-Some t c =
    meets-given c.args.here.now.program.now c.args.here.now.tags.now c.args.slot.now.name.now (plan_all c.args.here.now.program.now c.args.here.now.tags.now c.args.slot.now.own.now) (sides c.args.here.now) _ c.args.props.now _ c.args.state.now _ _
    (seen c.in-Some.content) _ _ _ _ _ _ c.as_str.ensures c.props_of.ensures c.outer_tags.ensures c.parts_of.ensures c.in-Some.ensures c.in_ok-old_view-in-Some.ensures c.in_ok-new_view-in-Some.ensures c.plan_list.ensures

pub plan_if-plan_kept-requires : goal.plan_if-plan_kept-requires
plan_if-plan_kept-requires t c = omega (arith, c.decreases, ap weights c.body_of.ensures, body-weight c.args.arms.now c.args.last.now c.in-Ok.arm)

pub plan_list-loop-index-init : goal.plan_list-loop-index-init
plan_list-loop-index-init t c = rw c.new-parts.ensures (list-begins _ _ _ _ _ _)

pub plan_list-plan_one-requires : goal.plan_list-plan_one-requires
plan_list-plan_one-requires t c = omega (arith, c.decreases, item-weight _ _ _ c.loop-index-test.true c.index-frags-index.is)

pub plan_one-plan_element-requires : goal.plan_one-plan_element-requires
plan_one-plan_element-requires t c = omega (arith, c.decreases, weight-Element _ _ _ _ _ c.in-Element.is, ap weights c.as_slice-in-Element.ensures)

pub plan_one-plan_slot-requires : goal.plan_one-plan_slot-requires
plan_one-plan_slot-requires t c = omega (arith, c.decreases, weight-Slot _ _ _ _ _ _ c.in-Slot.is, ap weights c.as_slice-in-Slot-2.ensures)

pub plan_one-plan_if-requires : goal.plan_one-plan_if-requires
plan_one-plan_if-requires t c = omega (arith, c.decreases, weight-If _ _ _ c.in-If.is, ap arms_weight c.as_slice-in-If.ensures, ap weights (c.frags_of.ensures ∙ ap frags_in c.as_ref.ensures.value))

pub plan_one-plan_each-requires : goal.plan_one-plan_each-requires
plan_one-plan_each-requires t c =
    omega (arith, c.decreases, weight-Each _ _ _ _ _ _ _ c.in-Each.is, ap weights c.as_slice-in-Each.ensures, ap weights (c.frags_of-in-Each.ensures ∙ ap frags_in c.as_ref-in-Each-2.ensures.value))

pub plan_one-plan_key-requires : goal.plan_one-plan_key-requires
plan_one-plan_key-requires t c = omega (arith, c.decreases, weight-Key _ _ _ c.in-Key.is, ap weights c.as_slice-in-Key.ensures)

pub plan_one-returns-in-Text : goal.plan_one-returns-in-Text
plan_one-returns-in-Text t c = meets-Text _ _ _ _ _ _ _ _ _ _ c.in-Text.is c.mark_of.ensures c.plan_literal.ensures

pub plan_one-returns-in-Show : goal.plan_one-returns-in-Show
plan_one-returns-in-Show t c = meets-Show _ _ _ _ _ _ _ _ _ c.in-Show.is c.plan_show.ensures

pub plan_one-returns-in-Element : goal.plan_one-returns-in-Element
plan_one-returns-in-Element t c = meets-Element _ _ _ _ _ _ _ _ _ _ _ _ _ _ c.in-Element.is c.as_slice.ensures c.as_slice-in-Element.ensures c.plan_element.ensures

pub plan_one-returns-in-Tag : goal.plan_one-returns-in-Tag
plan_one-returns-in-Tag t c = meets-Tag _ _ _ _ _ _ _ _ _ _ _ _ c.in-Tag.is c.place_of.ensures c.texts_of.ensures c.plan_tag.ensures

pub plan_one-returns-in-Named : goal.plan_one-returns-in-Named
plan_one-returns-in-Named t c = meets-Named _ _ _ _ _ _ _ _ _ _ _ c.in-Named.is (done _ _ _ _ refl refl)

pub plan_one-returns-in-Slot : goal.plan_one-returns-in-Slot
plan_one-returns-in-Slot t c = meets-Slot _ _ _ _ _ _ _ _ _ _ _ _ _ _ _ c.in-Slot.is c.as_slice-in-Slot.ensures c.as_slice-in-Slot-2.ensures c.plan_slot.ensures

pub plan_one-returns-in-If : goal.plan_one-returns-in-If
plan_one-returns-in-If t c = meets-If _ _ _ _ _ _ _ _ _ _ _ _ c.in-If.is c.as_slice-in-If.ensures (c.frags_of.ensures ∙ ap frags_in c.as_ref.ensures.value) c.plan_if.ensures

pub plan_one-returns-in-Each : goal.plan_one-returns-in-Each
plan_one-returns-in-Each t c =
    meets-Each _ _ _ _ _ _ _ _ _ _ _ _ _ _ _ _ _ c.in-Each.is (ap (λ k. head c.in-Each.list c.in-Each.item c.in-Each.index k) c.as_ref-in-Each.ensures.value) c.as_slice-in-Each.ensures (c.frags_of-in-Each.ensures ∙ ap frags_in c.as_ref-in-Each-2.ensures.value) c.plan_each.ensures

pub plan_one-returns-in-Key : goal.plan_one-returns-in-Key
plan_one-returns-in-Key t c = meets-Key _ _ _ _ _ _ _ _ _ _ _ c.in-Key.is c.as_slice-in-Key.ensures c.plan_key.ensures

pub plan_rows-returns-in-Err : goal.plan_rows-returns-in-Err
plan_rows-returns-in-Err t c =
    rows-stop (head_of c.args.block.now) (plan_all c.args.here.now.program.now c.args.here.now.tags.now c.args.block.now.body.now) (sides c.args.here.now) _ _ c.args.listing.now.number c.args.old.now.rows.now _ _ _ c.loop-index.index _ c.index-entries-index.result _ c.loop-index.state _
    c.loop-index.invariant c.loop-index-test.true c.index-entries-index.is c.unwrap_or.ensures (c.deref.ensures.value ∙ c.in_ok-places.ensures) c.old_row.ensures _ _ c.in-Err.ensures

pub plan_rows-loop-index-preserved : goal.plan_rows-loop-index-preserved
plan_rows-loop-index-preserved t c =
    rw c.in_ok-push-in-Ok.ensures.ok (rows-more (head_of c.args.block.now) (plan_all c.args.here.now.program.now c.args.here.now.tags.now c.args.block.now.body.now) (sides c.args.here.now) _ _ c.args.listing.now.number c.args.old.now.rows.now _ _ _ c.loop-index.index _ c.index-entries-index.result _ c.loop-index.state _
    c.loop-index.invariant c.loop-index-test.true c.index-entries-index.is c.unwrap_or.ensures (c.deref.ensures.value ∙ c.in_ok-places.ensures) c.old_row.ensures _ c.in-Ok.ensures)
