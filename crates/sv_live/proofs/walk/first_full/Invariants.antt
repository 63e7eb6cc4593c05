use Rattle.std.proofs.Common.{◌≡◌, ◌≤◌, ◌<◌, ◌-◌, ℕ, length, None}
use Rattle.sv_live.specs.Walk.{slot}
use Rattle.sv_live.proofs.walk.first_full.Given as goal

abbrev pub invariant-loop-at : goal.invariant-loop-at
invariant-loop-at l = record {
  from : l.from ≤ l.at;
  within : l.from ≤ length l.slots → l.at ≤ length l.slots;
  empty : (i : ℕ) → l.from ≤ i → i < l.at → slot l.slots i ≡ None;
}

abbrev pub decreases-loop-at : goal.decreases-loop-at
decreases-loop-at l = length l.slots - l.at
