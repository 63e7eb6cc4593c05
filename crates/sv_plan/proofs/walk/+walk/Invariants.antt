use Rattle.std.proofs.Common.{◌+◌}
use Rattle.std.specs.Prelude.{slice_get, unwrap_or}
use Rattle.sv_parts.proofs.Steps.{Left}
use Rattle.sv_plan.proofs.Weights.{weight, weights, arms_weight, owed}
use Rattle.sv_plan.specs.Lists.{head_of}
use Rattle.sv_plan.specs.Plan.{plan, plan_all, row_step, rows_step}
use Rattle.sv_plan.specs.Rows.{old_row}
use Rattle.sv_parts.specs.Sides.{sides}
use Rattle.sv_parts.specs.State.{one}
use Rattle.sv_plan.proofs.walk.+walk.Given as goal

abbrev pub invariant-plan_list-loop-index : goal.invariant-plan_list-loop-index
invariant-plan_list-loop-index l =
    Left (λ f i u. one (plan l.here.program.now l.here.tags.now f (sides l.here) (slice_get l.shapes i) u)) (plan_all l.here.program.now l.here.tags.now l.frags (sides l.here) l.shapes l.fn.state) l.frags l.index l.parts l.state

abbrev pub invariant-plan_rows-loop-index : goal.invariant-plan_rows-loop-index
invariant-plan_rows-loop-index l =
    Left (λ e i u. one (row_step (head_of l.block) (plan_all l.here.program.now l.here.tags.now l.block.body.now) (sides l.here) (unwrap_or l.old.number 0) l.listing.number (old_row l.old.rows.now e.key) i e u))
    (rows_step (head_of l.block) (plan_all l.here.program.now l.here.tags.now l.block.body.now) (sides l.here) (unwrap_or l.old.number 0) l.listing l.old.rows.now l.fn.state) l.entries l.index l.rows l.state

abbrev pub decreases-plan_one : goal.decreases-plan_one
decreases-plan_one l = weight l.frag.now + owed l.here.now.program.now l.here.now.tags.now

abbrev pub decreases-plan_list : goal.decreases-plan_list
decreases-plan_list l = weights l.frags.now + owed l.here.now.program.now l.here.now.tags.now

abbrev pub decreases-plan_kept : goal.decreases-plan_kept
decreases-plan_kept l = (weights l.frags.now + owed l.here.now.program.now l.here.now.tags.now) + 1

abbrev pub decreases-plan_element : goal.decreases-plan_element
decreases-plan_element l = (weights l.children.now + owed l.here.now.program.now l.here.now.tags.now) + 1

abbrev pub decreases-plan_if : goal.decreases-plan_if
decreases-plan_if l = ((arms_weight l.arms.now + weights l.last.now) + owed l.here.now.program.now l.here.now.tags.now) + 2

abbrev pub decreases-plan_key : goal.decreases-plan_key
decreases-plan_key l = (weights l.body.now + owed l.here.now.program.now l.here.now.tags.now) + 2

abbrev pub decreases-plan_row : goal.decreases-plan_row
decreases-plan_row l = (weights l.block.now.body.now + owed l.here.now.program.now l.here.now.tags.now) + 1

abbrev pub decreases-plan_rows : goal.decreases-plan_rows
decreases-plan_rows l = (weights l.block.now.body.now + owed l.here.now.program.now l.here.now.tags.now) + 2

abbrev pub decreases-plan_none : goal.decreases-plan_none
decreases-plan_none l = (weights l.none.now + owed l.here.now.program.now l.here.now.tags.now) + 1

abbrev pub decreases-plan_listed : goal.decreases-plan_listed
decreases-plan_listed l = ((weights l.block.now.body.now + weights l.block.now.none.now) + owed l.here.now.program.now l.here.now.tags.now) + 3

abbrev pub decreases-plan_each : goal.decreases-plan_each
decreases-plan_each l = ((weights l.block.now.body.now + weights l.block.now.none.now) + owed l.here.now.program.now l.here.now.tags.now) + 4

abbrev pub decreases-plan_content : goal.decreases-plan_content
decreases-plan_content l = (weights l.slot.now.own.now + owed l.here.now.program.now l.here.now.tags.now) + 1

abbrev pub decreases-plan_slot : goal.decreases-plan_slot
decreases-plan_slot l = (weights l.slot.now.own.now + owed l.here.now.program.now l.here.now.tags.now) + 2
