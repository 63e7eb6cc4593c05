-- Values that are ready to go their ways.
use Rattle.std.specs.Prelude.{◌≡◌, ℕ, ◌≤◌, ◌<◌, ◌+◌, ◌^◌, List, length}
use Rattle.sv_store.specs.Stores.{Store}
use Rattle.sv_states.specs.Moving.{goal_of, stores_after}
use Rattle.sv_states.specs.Moves.{moves_seen, AreReady}
use Rattle.sv_states.specs.Ways.{store_needs}
use Rattle.sv_states.specs.declared.parcel.Parcel.{Parcel}

-- there is all that the value takes on its way, and the clock can tell each change
pub record IsPacked (stores : List Store) (clock : ℕ) (p : Parcel) : Type 0 where
  pub goal : moves_seen p.moves ≡ goal_of (stores_after p.way.store p.copies.value stores) p.copies.value
  pub enough : length p.way.cells.items + store_needs stores p.way.store ≤ p.copies.left
  pub time : clock + p.copies.left + length p.way.cells.items < 2 ^ 64
  pub ready : AreReady stores (length p.way.cells.items) p.moves
