use Rattle.sv_flush.proofs.Entries.{entering-steps}
use Rattle.sv_flush.proofs.wait.push_after.Goals as goal

pub loop-at-preserved : goal.loop-at-preserved
loop-at-preserved c = entering-steps _ _ _ _ _ _ c.loop-at.invariant c.loop-at-test.true c.in_ok-push_waiting.ensures.ok
