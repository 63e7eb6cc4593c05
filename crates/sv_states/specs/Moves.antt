-- Moves of `$` names as they are kept.
use Rattle.std.specs.Prelude.{ℕ, ◌≤◌, ◌+◌, length, All, List, Option, Some, None}
use Rattle.sv_value.specs.View.{view_of}
use Rattle.sv_store.specs.Stores.{Store, subscribers_at}
use Rattle.sv_states.specs.Moving as seen
use Rattle.sv_states.specs.Moving.{no_goal}
use Rattle.sv_states.specs.declared.moves.Goal.{Goal}
use Rattle.sv_states.specs.declared.moves.Moves.{Moves}

abbrev pub goal_seen : Option Goal → seen.Goal
goal_seen None = no_goal
goal_seen (Some g) = record { store = Some g.store; value = view_of g.value }

abbrev pub moves_seen : Option Moves → seen.Goal
moves_seen None = no_goal
moves_seen (Some m) = record { store = Some m.store; value = m.values.value }

-- there is all that so many moves take
pub record AreReadyTo (stores : List Store) (n : ℕ) (m : Moves) : Type 0 where
  pub values : n ≤ m.values.left
  pub seats : n ≤ length m.seats.items
  pub room : All (λ seat. length (subscribers_at stores m.store) + n ≤ seat) m.seats.items

abbrev pub AreReady : List Store → ℕ → Option Moves → Type 0
AreReady stores n None = Unit {0}
AreReady stores n (Some m) = AreReadyTo stores n m
