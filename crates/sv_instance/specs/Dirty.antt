-- Which cells changed.
use Rattle.std.specs.Prelude.{ℕ, Bool, false, List, slice_index_or}

-- whether a cell is among those that changed
abbrev pub is_among : List Bool → ℕ → Bool
is_among dirty cell = slice_index_or dirty cell false
