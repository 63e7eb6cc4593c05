-- What holds while the steps are found.
use Rattle.std.specs.Prelude.{◌≡◌, ℕ, ◌+◌, ◌<◌, ◌≤◌, List, [], ◌++◌, take, drop}
use Rattle.sv_value.specs.declared.key.Key.{Key}
use Rattle.sv_keyed.specs.Keys.{times}
use Rattle.sv_keyed.specs.Steps.{apply_all, AreFair, HaveSpots}
use Rattle.sv_keyed.specs.declared.step.KeyStep.{KeyStep}

-- so many old keys were looked at: those in the new list stand in front
pub record Dropping (old new : List Key) (steps : List KeyStep) (front : List Key) (i : ℕ) : Type 0 where
  pub keys : apply_all old new steps old ≡ front ++ drop i old
  pub within : (k : Key) → times k front + times k (drop i old) ≤ times k old
  pub left : (k : Key) → 0 < times k front → 0 < times k new
  pub known : (k : Key) → 0 < times k new → times k front + times k (drop i old) ≡ times k old
  pub fair : AreFair old new steps
  pub spots : HaveSpots old new steps old
  pub idle : old ≡ new → (steps ≡ []) × (front ≡ take i old)

-- the new keys from this place on stand at the end, and the others in front
pub record Placing (old new : List Key) (steps : List KeyStep) (front : List Key) (j : ℕ) : Type 0 where
  pub keys : apply_all old new steps old ≡ front ++ drop j new
  pub once : (k : Key) → times k front ≤ 1
  pub left : (k : Key) → 0 < times k front → 0 < times k (take j new)
  pub known : (k : Key) → 0 < times k (take j new) → times k front ≡ times k old
  pub fair : AreFair old new steps
  pub spots : HaveSpots old new steps old
  pub idle : old ≡ new → (steps ≡ []) × (front ≡ take j new)
