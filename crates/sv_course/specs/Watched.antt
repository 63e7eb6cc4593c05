-- What is so of the instances that are shown, while a flush goes on: how the cells, the constants and the owner's view on which each was shown stand to
-- what it has now.
use Rattle.std.specs.Prelude.{◌≡◌, ◌<◌, ◌⊎◌, ℕ, List, [], Option, Some, option_and_then, slice_get}
use Rattle.sv_code.specs.declared.program.Component.{Component}
use Rattle.sv_code.specs.declared.program.Program.{Program}
use Rattle.sv_family.specs.Family.{component_for}
use Rattle.sv_family.specs.Kin.{Kins, Kin}
use Rattle.sv_instance.specs.Cells.{count_of, count_at}
use Rattle.sv_instance.specs.declared.instance.Instance.{Instance}
use Rattle.sv_meaning.specs.Components.{component_at}
use Rattle.sv_numbered.specs.Numbered.{at}
use Rattle.sv_right.specs.Later.{ViewCells, AreLater}
use Rattle.sv_shapes.specs.Showing.{Showing, shown_of}
use Rattle.sv_shapes.specs.declared.shown.Shown.{Shown}
use Rattle.sv_states.specs.States.{States, live}
use Rattle.sv_value.specs.Value.{Val}
use Rattle.sv_view.specs.Level.{View}
use Rattle.sv_view.specs.View.{levels_of}

abbrev pub view_in : Option Component → Option ℕ
view_in o = option_and_then (λ (c : Component). c.view) o

-- the cell for the owner's view of each live instance
abbrev pub view_cells : Program → Kins → ViewCells
view_cells p ks n = view_in (component_for p (at ks n))

-- the constants on which an instance was shown are those that it has, and so are those of the module files
pub record IsFixed (ms : List (List (Option Val))) (x : Shown) (i : Instance) : Type 0 where
  pub constants : x.view.own.constants ≡ i.setup.constants
  pub modules : x.view.modules ≡ ms

-- the cell for the owner's view moved since an instance was shown, or it was shown before the view that it was lent last
abbrev pub IsLentStill : Program → Shown → Instance → Type 0
IsLentStill p x i = (c : ℕ) → view_in (component_at p i.place.component) ≡ Some c → (count_of (slice_get x.view.own.cells c) < count_at i.cells.now c) ⊎ (x.view.owners ≡ levels_of i.owner_view)

-- so it is of each instance that is shown
pub record AreWatched (p : Program) (ms : List (List (Option Val))) (shown : ℕ → Option Shown) (s : States) : Type 0 where
  pub fixed : (n : ℕ) (x : Shown) (i : Instance) → shown n ≡ Some x → live s n ≡ Some i → IsFixed ms x i
  pub lent : (n : ℕ) (x : Shown) (i : Instance) → shown n ≡ Some x → live s n ≡ Some i → IsLentStill p x i

-- of the view on which an instance is to be shown now: it is its own, before the view that it was lent, with no locals, and later than the one on which it
-- was shown, if it was
pub record IsNow (p : Program) (ms : List (List (Option Val))) (ks : Kins) (s : Showing) (n : ℕ) (kin : Kin) (view : View) : Type 0 where
  pub inst : view.own.inst ≡ n
  pub locals : view.own.locals ≡ []
  pub owners : view.owners ≡ levels_of kin.lent
  pub modules : view.modules ≡ ms
  pub later : (x : Shown) → shown_of s n ≡ Some x → AreLater (view_cells p ks) x.view view
