-- The rows of each blocks. A row to come takes over what stood in the row that had its key.
use Rattle.std.specs.Prelude.{ℕ, List, [], Option, None, Some, option_map, slice_get}
use Rattle.std.specs.Option.{option_and_then}
use Rattle.sv_keyed.specs.Keys.{place_of}
use Rattle.sv_plan.specs.Lists.{Head, row_view, row_keys}
use Rattle.sv_parts.specs.Sides.{Sides}
use Rattle.sv_plan.specs.declared.rows.OldRow as found
use Rattle.sv_plan.specs.declared.rows.Views.{Views}
use Rattle.sv_shapes.specs.declared.shape.Row.{Row}
use Rattle.sv_shapes.specs.declared.shape.Shape.{Shape}
use Rattle.sv_value.specs.Value.{Val}
use Rattle.sv_value.specs.declared.key.Key.{Key}
use Rattle.sv_view.specs.Level.{View}

-- a row that there was, and its number
pub record OldRow : Type 0 where
  pub index : ℕ
  pub row : Row

-- the row that code found
abbrev pub seen : found.OldRow → OldRow
seen old = record { index = old.index; row = old.row.now }

-- the two views that code made
abbrev pub views_of : Views → Sides
views_of v = record { old = v.old; new = v.new }

abbrev pub old_at : List Row → ℕ → Option OldRow
old_at rows i = option_map (λ r. record { index = i; row = r }) (slice_get rows i)

-- the row at a place, where a place was found
abbrev pub old_found : List Row → Option ℕ → Option OldRow
old_found rows place = option_and_then (old_at rows) place

-- the row that had a key
abbrev pub old_row : List Row → Key → Option OldRow
old_row rows key = old_found rows (place_of (row_keys rows) key)

abbrev pub old_view : Head → ℕ → Option OldRow → View → View
old_view h n None v = v
old_view h n (Some old) v = row_view h n old.index old.row.item v

-- the two views of a row, where its list had a number and has one: the old view is that of the row that had its key
abbrev pub row_sides : Head → ℕ → ℕ → Option OldRow → ℕ → Val → Sides → Sides
row_sides h m n old i item at = record { old = old_view h m old at.old; new = row_view h n i item at.new }

-- what stood in a row
abbrev pub old_parts : Option OldRow → List Shape
old_parts None = []
old_parts (Some old) = old.row.parts
