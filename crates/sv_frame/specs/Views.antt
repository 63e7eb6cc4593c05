-- Views that instances were lent, and what leaves them as they are.
use Rattle.std.specs.Prelude.{◌≡◌, List, map, Option, option_map}
use Rattle.sv_frame.specs.Snapshots.{world_of}
use Rattle.sv_meaning.specs.Outcome.{Deed}
use Rattle.sv_states.specs.States.{States}
use Rattle.sv_view.specs.Level.{View}
use Rattle.sv_world.specs.declared.world.World.{World}

-- the views that the live instances were lent by their owners, by number
abbrev pub lent_views : States → List (Option (Option View))
lent_views s = map (option_map (λ i. i.owner_view)) s.lives

-- whether it ends or fails, a deed lends no view, and makes or takes away no instance
abbrev pub LeavesViews : {A : Type 0} → Deed A → Type 0
LeavesViews deed = (w : World) → lent_views (world_of (deed w)).states ≡ lent_views w.states
