use Rattle.sv_flush.proofs.Deeds.{deed-exit, deed-next}
use Rattle.sv_flush.proofs.machine.Machine.call_each.Goals as goal

pub returns-in_err-call_back : goal.returns-in_err-call_back
returns-in_err-call_back c =
    deed-exit _ _ _ _ _ _ _ _ _ _ c.loop-callback.invariant c.loop-callback-test.true c.callback-item.is c.in_err-call_back.was c.call_back.ensures c.from_residual.ensures.1

pub loop-callback-preserved : goal.loop-callback-preserved
loop-callback-preserved c = deed-next _ _ _ _ _ _ _ _ _ c.loop-callback.invariant c.loop-callback-test.true c.callback-item.is c.in_ok-call_back.was c.call_back.ensures
