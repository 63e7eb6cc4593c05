use Rattle.sv_parts.proofs.Steps.{mapped-steps, mapped-stops, one-ok, one-err}
use Rattle.sv_value.specs.View.{view_of}
use Rattle.sv_plan.proofs.lists.take_entries.Goals as goal

pub returns-in-Err : goal.returns-in-Err
returns-in-Err c = mapped-stops view_of _ _ _ _ _ _ c.take_entry.new.state _ _ _ c.loop-index.invariant c.loop-index-test.true c.index-items-index.is (one-err _ _ _ _ c.in-Err.ensures)

pub loop-index-preserved : goal.loop-index-preserved
loop-index-preserved c = rw c.in_ok-push-in-Ok.ensures.ok (mapped-steps view_of _ _ _ _ _ _ _ _ _ c.loop-index.invariant c.loop-index-test.true c.index-items-index.is (one-ok _ _ _ c.in-Ok.ensures))
