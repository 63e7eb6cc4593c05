-- Of the components in whose markup a `<slot>` stands.
use Rattle.std.specs.Prelude.{◌≡◌, ℕ, true, Some}
use Rattle.sv_code.specs.declared.program.Component.{Component}
use Rattle.sv_code.specs.declared.program.Program.{Program}
use Rattle.sv_family.specs.Kin.{takes_view}
use Rattle.sv_flush.specs.Creation.{cell_count}
use Rattle.sv_meaning.specs.Components.{component_at}
use Rattle.sv_stands.specs.Standing.{HasSlot}

-- a component in whose markup a slot stands has a cell for its owner's view
abbrev pub SlotsAreOwned : Program → Type 0
SlotsAreOwned p = (file : ℕ) (c : Component) → component_at p file ≡ Some c → HasSlot p c.markup → takes_view (Some c) (cell_count c) ≡ true
