-- What moved between the view on which something was shown before and the one on which it is shown now.
use Rattle.std.specs.Prelude.{ℕ, Bool}
use Rattle.sv_base.specs.declared.names.Name.{Name}
use Rattle.sv_code.specs.declared.parts.Reading.{Reading}
use Rattle.sv_meaning.specs.Moved as views
use Rattle.sv_parts.specs.declared.here.Here as handed
use Rattle.sv_view.specs.Level.{View}
use Rattle.sv_view.specs.declared.view.At.{At}

-- the view on which something was shown before, and the one on which it is shown now; where nothing was shown before, the first isn't looked at
pub record Sides : Type 0 where
  pub old : View
  pub new : View

-- the two views that code is handed
abbrev pub sides : handed.Here → Sides
sides here = record { old = here.old.now; new = here.new.now }

-- something that is looked at moved
abbrev pub has_moved : At → Sides → Bool
has_moved place at = views.has_moved at.old at.new place

abbrev pub cell_moved : Sides → ℕ → Bool
cell_moved at cell = views.cell_moved at.old at.new cell

abbrev pub local_moved : Sides → Name → Bool
local_moved at name = views.local_moved at.old at.new name

-- one of several such things moved
unfoldable pub moved : Reading → Sides → Bool
moved reads at = views.moved reads at.old at.new
