use Rattle.std.proofs.Common.{rules, OnOk}
use Rattle.sv_watch.proofs.Parting.{leads-start, leads-next, leads-stop, leads-end, parts-each}
use Rattle.sv_watch.proofs.tell.tell_each.Goals as goal

pub loop-change-init : goal.loop-change-init
loop-change-init g c = leads-start c.args.changes.now _ _

pub loop-change-preserved : goal.loop-change-preserved
loop-change-preserved g c =
    leads-next c.args.changes.now c.loop-change.change-index _ c.tell_all.result _ _ _ _ _ _ _ c.loop-change-test.true c.change-item.is c.loop-change.invariant c.in_ok-tell_all.was c.tell_all.ensures

pub returns-in_err-tell_all-clause-told : goal.returns-in_err-tell_all-clause-told
returns-in_err-tell_all-clause-told g c =
    let never : OnOk c.from_residual.result ⊥ = search rules in
    leads-stop c.args.changes.now c.loop-change.change-index _ c.tell_all.result _ _ _ _ _ _ _ c.loop-change-test.true c.change-item.is c.loop-change.invariant c.in_err-tell_all.was c.tell_all.ensures
    c.from_residual.result never

pub returns-in_err-tell_all-clause-parts : goal.returns-in_err-tell_all-clause-parts
returns-in_err-tell_all-clause-parts g c =
    let never : OnOk c.from_residual.result ⊥ = search rules in
    parts-each (leads-stop c.args.changes.now c.loop-change.change-index _ c.tell_all.result _ _ _ _ _ _ _ c.loop-change-test.true c.change-item.is c.loop-change.invariant c.in_err-tell_all.was c.tell_all.ensures
    c.from_residual.result never)

pub returns-clause-told : goal.returns-clause-told
returns-clause-told g c = leads-end c.args.changes.now c.loop-change.change-index _ _ _ _ c.loop-change-test.false c.loop-change.invariant

pub returns-clause-parts : goal.returns-clause-parts
returns-clause-parts g c = parts-each (leads-end c.args.changes.now c.loop-change.change-index _ _ _ _ c.loop-change-test.false c.loop-change.invariant)
