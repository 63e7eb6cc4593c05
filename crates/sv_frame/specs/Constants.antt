-- Constants of instances and of module files, and what leaves them as they are.
use Rattle.std.specs.Prelude.{◌≡◌, ◌≢◌, ℕ, List, map, Option, option_map}
use Rattle.sv_frame.specs.Snapshots.{world_of}
use Rattle.sv_instance.specs.declared.instance.Instance.{Instance}
use Rattle.sv_meaning.specs.Outcome.{Deed}
use Rattle.sv_numbered.specs.Numbered.{at}
use Rattle.sv_states.specs.States.{States}
use Rattle.sv_value.specs.Value.{Val}
use Rattle.sv_world.specs.declared.world.World.{World}

abbrev pub constants_of : Instance → List (Option Val)
constants_of i = i.setup.constants

-- those of the live instances, by number
abbrev pub constants : States → List (Option (List (Option Val)))
constants s = map (option_map constants_of) s.lives

-- whether it ends or fails, a deed gives no constant a value, and makes or takes away no instance
pub record LeavesConstants {A : Type 0} (deed : Deed A) : Type 0 where
  pub own : (w : World) → constants (world_of (deed w)).states ≡ constants w.states
  pub modules : (w : World) → (world_of (deed w)).modules ≡ w.modules

-- a deed for an instance gives none but its own a value, and module files none where the instance isn't 0
pub record LeavesOthers {A : Type 0} (n : ℕ) (deed : Deed A) : Type 0 where
  pub others : (w : World) (m : ℕ) → m ≢ n → at (constants (world_of (deed w)).states) m ≡ at (constants w.states) m
  pub modules : (w : World) → n ≢ 0 → (world_of (deed w)).modules ≡ w.modules
