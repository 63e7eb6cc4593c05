use Rattle.sv_flush.proofs.Steps.{mapped-goes, mapped-exit}
use Rattle.sv_flush.specs.Waits.{waiting_of}
use Rattle.sv_flush.proofs.machine.Machine.render_each.Goals as goal

pub returns-in_err-render_one : goal.returns-in_err-render_one
returns-in_err-render_one c =
    mapped-exit waiting_of _ _ _ _ _ _ _ _ _ _ c.loop-one.invariant c.loop-one-test.true c.in_err-render_one.was c.render_one.ensures c.from_residual.ensures.1

pub loop-one-preserved : goal.loop-one-preserved
loop-one-preserved c =
    mapped-goes waiting_of _ _ _ _ _ _ _ _ _ c.loop-one.invariant c.loop-one-test.true c.in_ok-render_one.was c.render_one.ensures
