-- How the forms begin that are left out by name (Svelte 4, 'Element directives' and 'Special tags'; HTML, 'Character references').
use Rattle.std.specs.Prelude.{◌≡◌, ◌≢◌, ◌||◌, ℕ, Bool, true, false, List, take, drop, None, codes}
use Rattle.std.specs.Str.{bytes_eq}
use Rattle.sv_lex.specs.Look.{skip, first_len}
use Rattle.sv_tags.specs.Classes.{first, begins}
use Rattle.sv_tags.specs.Directives.{name_at, is_left_out}
use Rattle.sv_tags.specs.Texts.{reference_len, meaning}
use Rattle.sv_markup.specs.declared.pieces.Piece.{Piece}
use Rattle.sv_markup.specs.declared.pieces.Piece.TheVariants.{Script, Style, LeftOut}
use Rattle.sv_markup.specs.Pieces.{piece_at}

-- an attribute: a directive that is left out, `slot` for the tag of a slot, or `type` for an input
abbrev pub names_left_out : List ℕ → Bool
names_left_out z = is_left_out z || bytes_eq (name_at z) (codes "slot") || bytes_eq (name_at z) (codes "type")

-- the name in braces
abbrev pub short_name : List ℕ → List ℕ
short_name z = take (first_len (drop 1 z)) (skip (drop 1 z))

-- a tag or a block that is left out, or a script or a style, of which one alone stands at the top
abbrev pub is_left_out_piece : Piece → Bool
is_left_out_piece LeftOut = true
is_left_out_piece Script = true
is_left_out_piece Style = true
is_left_out_piece _ = false

-- one of these begins the text
pub data BeginsLeftOut (z : List ℕ) : Type 0 where
  attribute : names_left_out z ≡ true → BeginsLeftOut z
  short : first z ≡ 123 → names_left_out (short_name z) ≡ true → BeginsLeftOut z
  spread : begins (codes "{...") z ≡ true → BeginsLeftOut z
  piece : is_left_out_piece (piece_at z) ≡ true → BeginsLeftOut z
  reference : reference_len z ≢ 0 → meaning z ≡ None → BeginsLeftOut z
