-- A watcher that refuses one change.
use Rattle.std.specs.Prelude.{ℕ, ◌+◌, ◌==◌, ◌&&◌, List, length, Bool, not, if◌then◌else◌}
use Rattle.sv_tokens.specs.declared.change.Change.{Change}

-- what it has heard, which change it refuses, from 1, and whether it has refused that one
pub record PickyState : Type 0 where
  pub heard : List Change
  pub nth : ℕ
  pub refused : Bool

-- the next change is the one that it refuses
abbrev pub is_due : PickyState → Bool
is_due p = not p.refused && (length p.heard + 1 == p.nth)

-- how many changes it has refused
abbrev pub refusals : PickyState → ℕ
refusals p = if p.refused then 1 else 0
