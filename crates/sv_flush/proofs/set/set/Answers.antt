use Rattle.sv_flush.proofs.Deeds.{deed-exit, deed-next}
use Rattle.sv_flush.proofs.set.set.Goals as goal

pub returns-in_err-set_one : goal.returns-in_err-set_one
returns-in_err-set_one c = deed-exit _ _ _ _ _ _ _ _ _ _ c.loop-prop.invariant c.loop-prop-test.true c.prop-item.is c.in_err-set_one.was c.set_one.ensures c.from_residual.ensures.1

pub loop-prop-preserved : goal.loop-prop-preserved
loop-prop-preserved c = deed-next _ _ _ _ _ _ _ _ _ c.loop-prop.invariant c.loop-prop-test.true c.prop-item.is c.in_ok-set_one.was c.set_one.ensures
