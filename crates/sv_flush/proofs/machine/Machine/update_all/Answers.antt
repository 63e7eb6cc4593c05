use Rattle.sv_flush.proofs.Queue.{settling-goes, settling-exit, settling-ends}
use Rattle.sv_flush.proofs.machine.Machine.update_all.Goals as goal

pub loop-inst-preserved : goal.loop-inst-preserved
loop-inst-preserved c = settling-goes _ _ c.loop-inst.left _ _ _ _ _ c.loop-inst.invariant c.if-left-eq0.false c.in-Some.ensures c.in_ok-update.was c.update.ensures

pub returns-in_err-update : goal.returns-in_err-update
returns-in_err-update c =
    settling-exit _ _ c.loop-inst.left _ _ _ _ _ _ c.loop-inst.invariant c.if-left-eq0.false c.in-Some.ensures c.in_err-update.was c.update.ensures c.from_residual.ensures.1

pub returns : goal.returns
returns c = settling-ends _ _ c.loop-inst.left c.loop-inst.page c.loop-inst.invariant c.in_default.ensures
