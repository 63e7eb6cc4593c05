-- Tables that number texts in the order in which they are first seen.
use Rattle.std.specs.Prelude.{ℕ, ◌≤◌, Bool, false, List, [], ◌∷◌, ◌++◌, length, slice_get, if◌then◌else◌}
use Rattle.std.specs.Str.{bytes_eq}
use Rattle.std.specs.List.{list_any, position_or_len, IsDistinct}
use Rattle.std.specs.Option.{option_map_or}
use Rattle.sv_base.specs.declared.limits.TheConstants.{NAME_LIMIT}
use Rattle.sv_base.specs.declared.names.Name.{Name}

-- a table of names, as the list of their texts
abbrev pub Table : Type 0
Table = List (List ℕ)

-- the number of a text: its place in the table, or the length where it is not there
unfoldable pub number_of : List ℕ → Table → ℕ
number_of text texts = position_or_len (bytes_eq text) texts

-- the table with a text, which goes last where it is not there
unfoldable pub with_text : List ℕ → Table → Table
with_text text texts = if list_any (bytes_eq text) texts then texts else texts ++ text ∷ []

-- no text stands twice, and each number is below 2^32 - 1
pub record IsTable (texts : Table) : Type 0 where
  pub distinct : IsDistinct bytes_eq texts
  pub few : length texts ≤ NAME_LIMIT

-- a name has this text
abbrev pub is_text : Table → List ℕ → Name → Bool
is_text table text name = option_map_or (λ found. bytes_eq found text) (slice_get table name.0) false

-- a name has one of these texts
abbrev pub is_one_of : Table → List (List ℕ) → Name → Bool
is_one_of table texts name = option_map_or (λ found. list_any (bytes_eq found) texts) (slice_get table name.0) false
