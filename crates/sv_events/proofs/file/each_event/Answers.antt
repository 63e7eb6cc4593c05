use Rattle.std.proofs.Common.{◌∙◌, sym, ap}
use Rattle.sv_events.specs.EventsFile.{behind}
use Rattle.sv_events.proofs.Telling.{left, before_any, one_more, one_wrong, all_told}
use Rattle.sv_events.proofs.file.each_event.Goals as goal

pub loop-at-init : goal.loop-at-init
loop-at-init c = before_any _ ∙ ap (λ events. behind events (left c.args.version c.args.values.now 0)) (sym c.new-events.ensures.items)

pub returns-in_default : goal.returns-in_default
returns-in_default c = one_wrong c.args.version c.args.values.now c.loop-at.at c.index-values-at.result _ _ c.loop-at-test.true c.index-values-at.is (sym c.in_default.is ∙ c.in_ok-event.ensures) c.loop-at.invariant

pub loop-at-preserved : goal.loop-at-preserved
loop-at-preserved c = one_more c.args.version c.args.values.now c.loop-at.at c.index-values-at.result _ _ _ c.in-Some.event c.loop-at-test.true c.index-values-at.is (sym c.in-Some.is ∙ c.in_ok-event.ensures) c.in_ok-push.ensures.items c.loop-at.invariant

pub returns : goal.returns
returns c = all_told c.args.version c.args.values.now c.loop-at.at _ _ c.loop-at-test.false c.loop-at.invariant
