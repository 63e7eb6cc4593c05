use Rattle.sv_flush.proofs.Deeds.{deed-exit, deed-next}
use Rattle.sv_flush.proofs.machine.Machine.mount_each.Goals as goal

pub returns-in_err-mount_one : goal.returns-in_err-mount_one
returns-in_err-mount_one c =
    deed-exit _ _ _ _ _ _ _ _ _ _ c.loop-callback.invariant c.loop-callback-test.true c.callback-item.is c.in_err-mount_one.was c.mount_one.ensures c.from_residual.ensures.1

pub loop-callback-preserved : goal.loop-callback-preserved
loop-callback-preserved c = deed-next _ _ _ _ _ _ _ _ _ c.loop-callback.invariant c.loop-callback-test.true c.callback-item.is c.in_ok-mount_one.was c.mount_one.ensures
