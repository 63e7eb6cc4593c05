-- What holds of the states at every moment, whatever scripts, callbacks and bindings do.
use Rattle.std.specs.Prelude.{◌≡◌, ℕ, ◌≤◌, Bool, true, false, ◌&&◌, if◌then◌else◌, List, Option, Some, None, is_some}
use Rattle.std.specs.List.{list_any}
use Rattle.sv_view.specs.Cell.{Cell}
use Rattle.sv_store.specs.Stores.{same_subscriber, subscribers_at}
use Rattle.sv_instance.specs.Cells as cells
use Rattle.sv_instance.specs.Subscriptions.{is_cell}
use Rattle.sv_instance.specs.declared.instance.Instance.{Instance}
use Rattle.sv_instance.specs.declared.subscriptions.Subscription.{Subscription}
use Rattle.sv_states.specs.States.{States, live, is_dirty_in}
use Rattle.sv_states.specs.Moving.{store_in, name_in}
use Rattle.sv_states.specs.Waiting.{is_waiting, has_shown, times}

-- a cell's count never falls, and where it is the same, the cell is
pub record IsLater (old new : Option Cell) : Type 0 where
  pub least : cells.count_of old ≤ cells.count_of new
  pub same : cells.count_of old ≡ cells.count_of new → old ≡ new

-- a cell of an instance whose count isn't the one at the last snapshot
pub record DirtyCell (o : Option Instance) : Type 0 where
  pub cell : ℕ
  pub dirty : is_dirty_in o cell ≡ true

-- the present cells are later than those at the last snapshot
abbrev pub IsSeen : Option Instance → Type 0
IsSeen None = Unit {0}
IsSeen (Some i) = (old : List (Option Cell)) → i.cells.seen ≡ Some old → (c : ℕ) → IsLater (cells.cell_at old c) (cells.cell_at i.cells.now c)

-- whether a cell changed since the last snapshot
abbrev pub has_changed : Option Instance → ℕ → Bool
has_changed None c = false
has_changed (Some i) c = is_some i.cells.seen && cells.is_dirty i.cells c

abbrev pub looks_at : ℕ → Option Subscription → Bool
looks_at id name = is_cell (store_in name) id

-- whether a `$` name of an instance looks at a store
abbrev pub has_subscription : Option Instance → ℕ → ℕ → Bool
has_subscription o c id = looks_at id (name_in o c)

-- whether a store has a cell among its subscribers
abbrev pub is_subscriber : States → ℕ → ℕ → ℕ → Bool
is_subscriber s n c id = list_any (same_subscriber (record { inst = n; cell = c })) (subscribers_at s.stores id)

pub record IsSound (s : States) : Type 0 where
  pub seen : (n : ℕ) → IsSeen (live s n)
  -- the queue names live instances, each once, that have had a snapshot
  pub queued : (n : ℕ) → times s.queue n ≡ (if is_waiting (live s n) then 1 else 0)
  pub shown : (n : ℕ) → is_waiting (live s n) ≡ true → has_shown (live s n) ≡ true
  -- who has a changed cell is queued, and nobody else
  pub dirty : (n c : ℕ) → has_changed (live s n) c ≡ true → is_waiting (live s n) ≡ true
  pub due : (n : ℕ) → is_waiting (live s n) ≡ true → DirtyCell (live s n)
  -- the instances and the stores tell the same subscriptions
  pub subscribed : (n c id : ℕ) → is_subscriber s n c id ≡ has_subscription (live s n) c id
