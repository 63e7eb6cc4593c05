use Rattle.std.proofs.Common.{◌≡◌, ◌<◌, ◌-◌, suc, length, take, arith, subst}
use Rattle.sv_nodes.specs.Sound.{IsAmong}
use Rattle.sv_nodes.proofs.Siblings.{among-fewer}
use Rattle.sv_nodes.proofs.children.place_of_child.Goals as goal

pub loop-at-preserved : goal.loop-at-preserved
loop-at-preserved c =
    let children = c.args.children.now in
    let at = c.loop-at.at - 1 in
    let inside : at < length children = omega (arith, c.loop-at-test.true, c.loop-at.invariant.0) in
    let next : c.loop-at.at ≡ suc at = omega (arith, c.loop-at-test.true) in
    (omega (arith, inside), among-fewer c.args.child children at inside c.if-children-at.false (subst (λ z. IsAmong c.args.child (take z children)) next c.loop-at.invariant.1))
