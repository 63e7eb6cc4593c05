-- The world in which scripts run.
use Rattle.std.specs.Prelude.{ℕ, List, [], Option, Some, None, option_map}
use Rattle.sv_value.specs.Value.{Val}
use Rattle.sv_view.specs.Level.{View}
use Rattle.sv_view.specs.View.{started, with_constants}
use Rattle.sv_instance.specs.Cells.{present}
use Rattle.sv_instance.specs.declared.instance.Instance.{Instance}
use Rattle.sv_states.specs.States.{States, live}
use Rattle.sv_states.specs.Empty.{no_states}
use Rattle.sv_world.specs.Turn.{fresh}
use Rattle.sv_world.specs.declared.world.World.{World}

-- where everything begins
abbrev pub no_world : World
no_world = record { states = no_states; modules = []; turn = fresh }

-- the view of an instance's present cells, before an owner's view
abbrev pub view_before : Option View → List (List (Option Val)) → ℕ → Instance → View
view_before owner modules n i = with_constants (started n (present i.cells.now) owner) i.setup.constants modules

-- the same, before the view that its owner handed it
abbrev pub present_view : List (List (Option Val)) → ℕ → Instance → View
present_view modules n i = view_before i.owner_view modules n i

-- the view of a live instance, before an owner's view
abbrev pub presented_before : Option View → States → List (List (Option Val)) → ℕ → Option View
presented_before owner s modules n = option_map (view_before owner modules n) (live s n)

-- the same, before the view that its owner handed it
abbrev pub presented : States → List (List (Option Val)) → ℕ → Option View
presented s modules n = option_map (present_view modules n) (live s n)

abbrev pub constants_in : Option Instance → List (Option Val)
constants_in None = []
constants_in (Some i) = i.setup.constants

-- the constants of an instance, or of none, and those of the module files: a view without cells
abbrev pub constants_view : World → ℕ → View
constants_view w n = with_constants (started n [] None) (constants_in (live w.states n)) w.modules
