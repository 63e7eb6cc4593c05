-- The names of what is looked at.
use Rattle.std.specs.Prelude.{ℕ, List, [], ◌∷◌, ◌++◌, map, codes, slice_get, unwrap_or, if◌then◌else◌}
use Rattle.std.specs.List.{flat_map}
use Rattle.std.specs.Option.{option_map_or}
use Rattle.sv_ast.specs.declared.names.Ref.{Ref}
use Rattle.sv_ast.specs.declared.names.Ref.TheVariants.{Plain, Store}
use Rattle.sv_base.specs.declared.names.Name.{Name}
use Rattle.sv_code.specs.declared.parts.Reading.{Reading}
use Rattle.sv_names.specs.Distinct.{same_ref}
use Rattle.sv_scopes.specs.declared.scope.TheConstants.{VIEW}

-- the text of a name, where `names` are the texts of names by number; a name without a text has the empty one
abbrev pub name_text : (names : List (List ℕ)) → Name → List ℕ
name_text names name = unwrap_or (slice_get names name.0) []

-- the text of a store `$x`, or of the owner's view
abbrev pub store_text : List (List ℕ) → Name → List ℕ
store_text names name = if same_ref (Store name) VIEW then codes "$$view" else codes "$" ++ name_text names name

-- the text of a cell's name
abbrev pub ref_text : List (List ℕ) → Ref → List ℕ
ref_text names (Plain name) = name_text names name
ref_text names (Store name) = store_text names name

-- the text of the cell with a number; where there is none it is empty
abbrev pub cell_text : List (List ℕ) → (cells : List Ref) → ℕ → List ℕ
cell_text names cells number = option_map_or (ref_text names) (slice_get cells number) []

-- the texts of what is looked at: cells by their numbers, and then locals
abbrev pub reading_texts : List (List ℕ) → List Ref → Reading → List (List ℕ)
reading_texts names cells reading = map (cell_text names cells) reading.cells ++ map (name_text names) reading.locals

-- texts, each behind a comma
abbrev pub behind_commas : List (List ℕ) → List ℕ
behind_commas texts = flat_map (λ text. codes "," ++ text) texts

-- texts with commas between, or `-` where there is none
abbrev pub listed : List (List ℕ) → List ℕ
listed [] = codes "-"
listed (text ∷ more) = text ++ behind_commas more
