-- The branches of if blocks, and the rows of each blocks.
use Rattle.std.specs.Prelude.{ℕ, suc, List, [], ◌∷◌, Option, Some, None, if◌then◌else◌}
use Rattle.sv_code.specs.declared.parts.Part.{Part}
use Rattle.sv_code.specs.declared.program.Program.{Program}
use Rattle.sv_fresh.specs.Values.{holds_at}
use Rattle.sv_shapes.specs.declared.shape.Row.{Row}
use Rattle.sv_shapes.specs.declared.shape.Shape.{Shape}
use Rattle.sv_value.specs.Value.{Val, list, items}
use Rattle.sv_view.specs.Level.{View}

-- the first branch whose condition is true, from one with a number on, or the last one
abbrev pub choose : Program → View → List Part → ℕ → ℕ
choose p v [] i = i
choose p v (t ∷ ts) i = if holds_at p v t then i else choose p v ts (suc i)

-- the items of a list
abbrev pub items_in : Option Val → List Val
items_in (Some (list vs)) = items vs
items_in _ = []

-- what is recorded of a row
abbrev pub row_parts : Option Row → List Shape
row_parts None = []
row_parts (Some row) = row.parts
