use Rattle.std.proofs.Common.{◌≡◌, true, false, is_some, rules}
use Rattle.sv_flush.proofs.Queue.{rounds-go, rounds-exit, rounds-end}
use Rattle.sv_flush.proofs.machine.Machine.settle.Goals as goal

pub loop-left-preserved : goal.loop-left-preserved
loop-left-preserved c =
    let some : is_some c.first_queued.result ≡ true = search rules in
    rounds-go _ _ c.loop-left.left _ c.first_queued.result c.loop-left.invariant c.first_queued.ensures _ _ _ c.if-left-eq0.false some c.in_ok-round.was c.round.ensures

pub returns-in_err-round : goal.returns-in_err-round
returns-in_err-round c =
    let some : is_some c.first_queued.result ≡ true = search rules in
    rounds-exit _ _ c.loop-left.left _ c.first_queued.result c.loop-left.invariant c.first_queued.ensures _ _ _ _ c.if-left-eq0.false some c.in_err-round.was c.round.ensures c.from_residual.ensures.1

pub returns : goal.returns
returns c =
    let none : is_some c.first_queued.result ≡ false = search rules in
    rounds-end _ _ c.loop-left.left c.loop-left.page c.first_queued.result c.loop-left.invariant c.first_queued.ensures none
