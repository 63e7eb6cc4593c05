use Rattle.std.proofs.Common.{sym, ap, ◌∙◌}
use Rattle.sv_states.specs.Waiting.{is_waiting}
use Rattle.sv_states.proofs.Ending.{ready_removed, ready_gone, removed-idle, frozen_if}
use Rattle.sv_states.proofs.board.Board.remove.Goals as goal

pub returns-then-instance-clause-ready : goal.returns-then-instance-clause-ready
returns-then-instance-clause-ready c = ready_removed c.args.self.now c.args.inst.number c.requires c.in-Some.instance c.in-Some.ensures.value c.remove.new.self c.in-Some.ensures.rest c.drop_of.new.self c.freeze.new.self c.leave.new.self c.if-instance.true c.leave.ensures

pub returns-in-Some-clause-states : goal.returns-in-Some-clause-states
returns-in-Some-clause-states c = removed-idle c.args.self.now c.args.inst.number c.requires (ap is_waiting (sym c.in-Some.ensures.value) ∙ c.if-instance.false) c.remove.new.self c.in-Some.ensures.rest c.drop_of.new.self c.drop_of.ensures
    c.freeze.new.self (c.freeze.ensures ∙ ap (λ o. frozen_if o c.args.self.now.derived c.args.inst.number) c.in-Some.ensures.value)

pub returns-in-Some-clause-ready : goal.returns-in-Some-clause-ready
returns-in-Some-clause-ready c = ready_gone c.args.self.now c.args.inst.number c.requires c.in-Some.instance c.in-Some.ensures.value c.remove.new.self c.in-Some.ensures.rest c.drop_of.new.self c.freeze.new.self c.if-instance.false

pub returns-clause-states : goal.returns-clause-states
returns-clause-states c = removed-idle c.args.self.now c.args.inst.number c.requires (ap is_waiting (sym c.in_default.ensures.value)) c.remove.new.self c.in_default.ensures.rest c.drop_of.new.self c.drop_of.ensures
    c.args.self.now.derived (ap (λ o. frozen_if o c.args.self.now.derived c.args.inst.number) c.in_default.ensures.value)
