use Rattle.std.proofs.Common.{sym, ◌∙◌}
use Rattle.std.specs.Prelude.{not}
use Rattle.std.proofs.lemmas.Bool.{not_from_true, not_from_false}
use Rattle.sv_names.specs.Distinct.{has}
use Rattle.sv_order.proofs.Setting.{needs-unknown, needs-own, needs-more, told}
use Rattle.sv_order.proofs.links.needs.Goals as goal
use Rattle.sv_order.proofs.links.needs.Goals.{in-Some+then-not-ends_with+in_ok-push, in-Some+else-not-ends_with, in_default}

pub loop-name-preserved : goal.loop-name-preserved
loop-name-preserved c = elim c.match-number_of.branch [
  | in-Some+then-not-ends_with+in_ok-push w ↦
      w.needs-is ∙ needs-more c.args.names.now.keys c.args.count (λ name. not (has name c.args.statement.now.sets)) c.as_slice-name-items.result.now c.loop-name.name-index _ c.loop-name.needs w.push.new.self w.in-Some.at c.loop-name-test.true c.loop-name.invariant
      (sym w.in-Some.ensures) (not_from_false _ (sym (told c.args.names.now.keys c.args.setters.now c.args.statement.now.sets c.args.place _ w.in-Some.at w.index-setters-at.result c.requires.size c.requires.own (sym w.in-Some.ensures) w.index-setters-at.is) ∙ (sym w.ends_with.ensures ∙ w.if-not-ends_with.true)))
      w.in_ok-push.ensures.ok
  | in-Some+else-not-ends_with w ↦
      w.needs-is ∙ needs-own c.args.names.now.keys c.args.count (λ name. not (has name c.args.statement.now.sets)) c.as_slice-name-items.result.now c.loop-name.name-index _ c.loop-name.needs c.loop-name-test.true c.loop-name.invariant
      (not_from_true _ (sym (told c.args.names.now.keys c.args.setters.now c.args.statement.now.sets c.args.place _ w.in-Some.at w.index-setters-at.result c.requires.size c.requires.own (sym w.in-Some.ensures) w.index-setters-at.is) ∙ (sym w.ends_with.ensures ∙ w.if-not-ends_with.false)))
  | in_default w ↦ w.needs-is ∙ needs-unknown c.args.names.now.keys c.args.count (λ name. not (has name c.args.statement.now.sets)) c.as_slice-name-items.result.now c.loop-name.name-index _ c.loop-name.needs c.loop-name-test.true c.loop-name.invariant (sym w.in_default.ensures)
]
