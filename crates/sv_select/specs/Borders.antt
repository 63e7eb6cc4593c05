-- The pieces of a text, and the borders between them.
use Rattle.std.specs.Prelude.{ℕ, ◌==◌, ◌||◌, Bool, List, [], ◌∷◌, drop, Option, None, Some, if◌then◌else◌}
use Rattle.std.specs.Char.{is_ascii_whitespace}
use Rattle.std.specs.List.{position_or_len}
use Rattle.sv_select.specs.declared.borders.Border.{Border}
use Rattle.sv_select.specs.declared.borders.Border.TheVariants.{Child, Space, Part, White}

-- `>`, a space, `#` or `.`, and white space (HTML, 'ASCII whitespace')
abbrev pub is_border : Border → ℕ → Bool
is_border Child b = b == 62
is_border Space b = b == 32
is_border Part b = b == 35 || b == 46
is_border White b = is_ascii_whitespace b

-- a byte before the first of some pieces
abbrev pub ahead : ℕ → List (List ℕ) → List (List ℕ)
ahead b [] = (b ∷ []) ∷ []
ahead b (piece ∷ pieces) = (b ∷ piece) ∷ pieces

-- The pieces of a text: what stands before, between and behind its borders. Each may be empty.
abbrev pub pieces : Border → List ℕ → List (List ℕ)
pieces border [] = [] ∷ []
pieces border (b ∷ z) = if is_border border b then [] ∷ pieces border z else ahead b (pieces border z)

-- those of a text that may not be there
abbrev pub pieces_in : Border → Option (List ℕ) → List (List ℕ)
pieces_in border None = []
pieces_in border (Some z) = pieces border z

-- a text from its first border on
abbrev pub rest : Border → List ℕ → List ℕ
rest border z = drop (position_or_len (is_border border) z) z
