-- What snapshots saw, and what leaves it as it is.
use Rattle.std.specs.Prelude.{◌≡◌, ℕ, List, length, map, Option, option_map}
use Rattle.sv_instance.specs.declared.instance.Instance.{Instance}
use Rattle.sv_meaning.specs.Outcome.{Ending, Ends, Fails, Deed}
use Rattle.sv_states.specs.States.{States}
use Rattle.sv_view.specs.Cell.{Cell}
use Rattle.sv_world.specs.declared.world.World.{World}

-- how many cells an instance has, and what they were at its last snapshot, if there was one
pub record Snapshot : Type 0 where
  pub count : ℕ
  pub seen : Option (List (Option Cell))

abbrev pub snapshot_of : Instance → Snapshot
snapshot_of i = record { count = length i.cells.now; seen = i.cells.seen }

-- the last snapshots of the live instances, by number
abbrev pub snapshots : States → List (Option Snapshot)
snapshots s = map (option_map snapshot_of) s.lives

-- the world that a deed leaves
abbrev pub world_of : {A : Type 0} → Ending A → World
world_of (Ends a w) = w
world_of (Fails k s w) = w

-- whether it ends or fails, a deed takes no snapshot, and makes or takes away no instance
abbrev pub LeavesSnapshots : {A : Type 0} → Deed A → Type 0
LeavesSnapshots deed = (w : World) → snapshots (world_of (deed w)).states ≡ snapshots w.states
