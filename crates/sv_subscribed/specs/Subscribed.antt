-- Who is subscribed to which store.
use Rattle.std.specs.Prelude.{◌≡◌, ◌<◌, ℕ, Bool, true, List, length, Option, Some}
use Rattle.sv_code.specs.declared.program.Component.{Component}
use Rattle.sv_code.specs.declared.program.Program.{Program}
use Rattle.sv_code.specs.declared.program.StoreCell.{StoreCell}
use Rattle.sv_flush.specs.Outcome.{Outcome, Done, Halted}
use Rattle.sv_flush.specs.Page.{begun, blank}
use Rattle.sv_frame.specs.Snapshots.{world_of}
use Rattle.sv_instance.specs.declared.instance.Instance.{Instance}
use Rattle.sv_meaning.specs.Components.{component_at}
use Rattle.sv_meaning.specs.Runs.{run_modules}
use Rattle.sv_states.specs.Sound.{is_subscriber}
use Rattle.sv_states.specs.States.{States, live}
use Rattle.sv_store.specs.Stores.{IsOnce}
use Rattle.sv_value.specs.Value.{Val}
use Rattle.sv_subscribed.specs.Holders.{IsAmong, store_held, held}

-- a live instance whose component has a `$` name in a cell
pub record HasName (p : Program) (s : States) (n : ℕ) (x : StoreCell) : Type 0 where
  pub instance : Instance
  pub component : Component
  pub there : live s n ≡ Some instance
  pub is : component_at p instance.place.component ≡ Some component
  pub among : IsAmong x component.stores

-- the store that is held now by what is to hold that of a `$` name
abbrev pub held_now : List (List (Option Val)) → Instance → StoreCell → Option ℕ
held_now ms i x = store_held (held ms i.cells.now i.setup.constants x.holder)

-- the subscribers of all stores are the `$` names of live instances, each once, at the store that its name holds and at no other. Those whose name holds one
-- of the first so many stores are there
pub record AreSubscribed (p : Program) (many : ℕ) (ms : List (List (Option Val))) (s : States) : Type 0 where
  pub named : (n c id : ℕ) → is_subscriber s n c id ≡ true → (x : StoreCell) × (HasName p s n x × (x.cell ≡ c))
  pub right : (n id : ℕ) (x : StoreCell) (name : HasName p s n x) → is_subscriber s n x.cell id ≡ true → held_now ms name.instance x ≡ Some id
  pub there : (n id : ℕ) (x : StoreCell) (name : HasName p s n x) → held_now ms name.instance x ≡ Some id → id < many → is_subscriber s n x.cell id ≡ true
  pub once : IsOnce s.stores

-- how many stores module files make
abbrev pub first_stores : Program → ℕ
first_stores p = length (world_of (run_modules p (begun blank).world)).states.stores

-- so it is where a turn isn't refused, with the stores that module files made
abbrev pub LeavesSubscribed : Program → Outcome Bool → Type 0
LeavesSubscribed p (Done target m) = AreSubscribed p (first_stores p) m.world.modules m.world.states
LeavesSubscribed p (Halted r m) = Unit {0}
