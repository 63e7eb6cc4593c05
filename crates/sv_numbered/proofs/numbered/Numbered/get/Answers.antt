use Rattle.std.proofs.Common.{sym}
use Rattle.sv_numbered.proofs.Numbers.{value_at, value_nowhere}
use Rattle.sv_numbered.proofs.numbered.Numbered.get.Goals as goal

pub returns-in_err-key : goal.returns-in_err-key
returns-in_err-key g c = rw c.from_residual.ensures (sym (value_nowhere c.self.inside.next c.self.inside.slots.slots c.args.self.now c.args.inst.number 0 c.self.view_is c.self.invariant c.in_err-key.ensures))

pub returns-in-Some : goal.returns-in-Some
returns-in-Some g c = value_at c.self.inside.next c.self.inside.slots.slots c.args.self.now c.args.inst.number c.in_ok-key.key c.self.view_is c.self.invariant c.in-Some.entry.now c.in_ok-key.ensures c.in-Some.ensures
