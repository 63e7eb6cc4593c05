use Rattle.std.proofs.Common.{sym, ap, inr}
use Rattle.sv_numbered.proofs.Numbers.{value_at, value_nowhere, set_at, lends_same}
use Rattle.sv_numbered.proofs.numbered.Numbered.get_mut.Goals as goal

pub returns-in_err-key : goal.returns-in_err-key
returns-in_err-key g c = rw c.from_residual.ensures (ap inr c.self.view_is, record { writes_back = tt; value = sym (value_nowhere c.self.inside.next c.self.inside.slots.slots c.args.self.now c.args.inst.number 0 c.self.view_is c.self.invariant c.in_err-key.ensures) })

pub returns-in-Some : goal.returns-in-Some
returns-in-Some g c = (lends_same _ _ _ (λ w. set_at c.self.inside.next c.self.inside.slots.slots c.args.self.now c.args.inst.number c.in_ok-key.key c.self.view_is c.self.invariant c.in-Some.entry.now c.in_ok-key.ensures c.in-Some.ensures.value w), record { writes_back = tt; value = value_at c.self.inside.next c.self.inside.slots.slots c.args.self.now c.args.inst.number c.in_ok-key.key c.self.view_is c.self.invariant c.in-Some.entry.now c.in_ok-key.ensures c.in-Some.ensures.value })
