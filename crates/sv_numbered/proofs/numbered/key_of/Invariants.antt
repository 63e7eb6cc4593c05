use Rattle.std.proofs.Common.{◌≡◌, ℕ, ◌<◌, false}
use Rattle.sv_numbered.specs.Slots.{is_at}
use Rattle.sv_numbered.proofs.numbered.key_of.Given as goal

abbrev pub invariant-loop-key : goal.invariant-loop-key
invariant-loop-key g l = (k : ℕ) → k < l.key → is_at l.slots.slots l.inst.number k ≡ false
