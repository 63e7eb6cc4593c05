use Rattle.sv_flush.proofs.Steps.{left-goes, left-exit}
use Rattle.sv_flush.proofs.machine.Machine.+destroy.Goals as goal

pub destroy_children-returns-in_err-destroy_at : goal.destroy_children-returns-in_err-destroy_at
destroy_children-returns-in_err-destroy_at t c =
    left-exit _ _ _ _ _ _ _ _ _ _ c.loop-place.invariant c.loop-place-test.true c.in_err-destroy_at.was c.destroy_at.ensures c.from_residual-in_err-destroy_at.ensures.1

pub destroy_children-loop-place-preserved : goal.destroy_children-loop-place-preserved
destroy_children-loop-place-preserved t c =
    left-goes _ _ _ _ _ _ _ _ _ c.loop-place.invariant c.loop-place-test.true c.in_ok-destroy_at.was c.destroy_at.ensures
