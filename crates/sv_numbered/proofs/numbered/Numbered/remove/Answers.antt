use Rattle.std.proofs.Common.{◌∙◌, sym}
use Rattle.sv_numbered.proofs.Numbers.{value_at, value_nowhere, set_nowhere, gone_at}
use Rattle.sv_numbered.proofs.numbered.Numbered.remove.Goals as goal

pub returns-in_err-key-clause-value : goal.returns-in_err-key-clause-value
returns-in_err-key-clause-value g c = c.from_residual.ensures ∙ sym (value_nowhere c.self.inside.next c.self.inside.slots.slots c.args.self.now c.args.inst.number 0 c.self.view_is c.self.invariant c.in_err-key.ensures)

pub returns-in_err-key-clause-rest : goal.returns-in_err-key-clause-rest
returns-in_err-key-clause-rest g c = set_nowhere c.self.inside.next c.self.inside.slots.slots c.args.self.now c.args.inst.number 0 c.self.view_is c.self.invariant c.in_err-key.ensures

pub returns-clause-value : goal.returns-clause-value
returns-clause-value g c = value_at c.self.inside.next c.self.inside.slots.slots c.args.self.now c.args.inst.number c.in_ok-key.key c.self.view_is c.self.invariant c.in_ok-entry.entry c.in_ok-key.ensures c.in_ok-entry.ensures.value

pub returns-clause-rest : goal.returns-clause-rest
returns-clause-rest g c = gone_at c.self.inside.next c.self.inside.slots.slots c.args.self.now c.args.inst.number c.in_ok-key.key c.self.view_is c.self.invariant c.in_ok-entry.entry c.in_ok-key.ensures c.in_ok-entry.ensures.value c.try_remove.new.self.slots c.in_ok-entry.ensures.slots
