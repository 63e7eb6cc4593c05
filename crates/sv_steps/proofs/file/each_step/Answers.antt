use Rattle.std.proofs.Common.{◌∙◌, sym, ap}
use Rattle.sv_steps.specs.StepsFile.{behind}
use Rattle.sv_steps.proofs.Telling.{left, before_any, one_more, one_wrong, all_told}
use Rattle.sv_steps.proofs.file.each_step.Goals as goal

pub loop-at-init : goal.loop-at-init
loop-at-init c = before_any _ ∙ ap (λ steps. behind steps (left c.args.values.now 0)) (sym c.new-steps.ensures.items)

pub returns-in_default : goal.returns-in_default
returns-in_default c = one_wrong c.args.values.now c.loop-at.at c.index-values-at.result _ _ c.loop-at-test.true c.index-values-at.is (sym c.in_default.is ∙ c.in_ok-step.ensures) c.loop-at.invariant

pub loop-at-preserved : goal.loop-at-preserved
loop-at-preserved c = one_more c.args.values.now c.loop-at.at c.index-values-at.result _ _ _ c.in-Some.step c.loop-at-test.true c.index-values-at.is (sym c.in-Some.is ∙ c.in_ok-step.ensures) c.in_ok-push.ensures.items c.loop-at.invariant

pub returns : goal.returns
returns c = all_told c.args.values.now c.loop-at.at _ _ c.loop-at-test.false c.loop-at.invariant
