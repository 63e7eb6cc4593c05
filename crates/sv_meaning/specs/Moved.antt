-- What moved between two views, of what is looked at.
use Rattle.std.specs.Prelude.{ℕ, Bool, not, nat_eq, ◌||◌}
use Rattle.std.specs.List.{list_any}
use Rattle.sv_base.specs.declared.names.Name.{Name}
use Rattle.sv_code.specs.declared.parts.Reading.{Reading}
use Rattle.sv_view.specs.Level.{View}
use Rattle.sv_view.specs.View.{version}
use Rattle.sv_view.specs.declared.view.At.{At}
use Rattle.sv_view.specs.declared.view.At.TheVariants.{Cell, Local}

-- what stands at a place has another version
abbrev pub has_moved : View → View → At → Bool
has_moved old new place = not (nat_eq (version old place) (version new place))

abbrev pub cell_moved : View → View → ℕ → Bool
cell_moved old new cell = has_moved old new (Cell cell)

abbrev pub local_moved : View → View → Name → Bool
local_moved old new name = has_moved old new (Local name)

-- one of the things that are looked at moved
abbrev pub moved : Reading → View → View → Bool
moved reads old new = list_any (cell_moved old new) reads.cells || list_any (local_moved old new) reads.locals
