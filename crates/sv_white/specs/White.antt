-- The white space of markup. Texts beside one another are one, also where a part of its own stands between them, which goes to a slot with
-- a name; and some content loses white space at its two ends. Which content that is, is this project's own rule.
use Rattle.std.specs.Prelude.{ℕ, Bool, true, false, ◌&&◌, List, [], ◌∷◌, ◌++◌, reverse, if◌then◌else◌}
use Rattle.std.specs.Char.{is_ascii_whitespace}
use Rattle.sv_white.specs.declared.pieces.Piece.{Piece}
use Rattle.sv_white.specs.declared.pieces.Piece.TheVariants.{Words, Apart, Other}
use Rattle.sv_white.specs.declared.strip.End.{End}
use Rattle.sv_white.specs.declared.strip.End.TheVariants.{Front, Back}

abbrev pub is_empty : List ℕ → Bool
is_empty [] = true
is_empty (b ∷ bytes) = false

-- ---- texts beside one another

-- the text at the front of some pieces
abbrev pub text_ahead : {T : Type 0} → List (Piece T) → List ℕ
text_ahead [] = []
text_ahead (Words text ∷ pieces) = text ++ text_ahead pieces
text_ahead (Apart x ∷ pieces) = text_ahead pieces
text_ahead (Other x ∷ pieces) = []

-- what is kept of a piece before others
abbrev pub joined_piece : {T : Type 0} → Bool → Piece T → List (Piece T) → List (Piece T)
joined_piece behind_text (Words text) pieces = if behind_text then [] else Words (text ++ text_ahead pieces) ∷ []
joined_piece behind_text (Apart x) pieces = Apart x ∷ []
joined_piece behind_text (Other x) pieces = Other x ∷ []

-- whether text stands last behind a piece, parts of their own aside
abbrev pub is_behind_text : {T : Type 0} → Bool → Piece T → Bool
is_behind_text behind_text (Words text) = true
is_behind_text behind_text (Apart x) = behind_text
is_behind_text behind_text (Other x) = false

-- pieces behind others, where text stood last or not: a text takes in those that follow it
abbrev pub joined_behind : {T : Type 0} → Bool → List (Piece T) → List (Piece T)
joined_behind behind_text [] = []
joined_behind behind_text (piece ∷ pieces) = joined_piece behind_text piece pieces ++ joined_behind (is_behind_text behind_text piece) pieces

abbrev pub joined : {T : Type 0} → List (Piece T) → List (Piece T)
joined pieces = joined_behind false pieces

-- ---- white space at the ends (HTML, 'ASCII whitespace')

abbrev pub trim_start : List ℕ → List ℕ
trim_start [] = []
trim_start (b ∷ bytes) = if is_ascii_whitespace b then trim_start bytes else b ∷ bytes

abbrev pub trim_end : List ℕ → List ℕ
trim_end [] = []
trim_end (b ∷ bytes) = if is_empty (trim_end bytes) && is_ascii_whitespace b then [] else b ∷ trim_end bytes

-- a text, if there is any of it
abbrev pub words : {T : Type 0} → List ℕ → List (Piece T)
words text = if is_empty text then [] else Words text ∷ []

-- pieces whose first one, parts of their own aside, is trimmed where it is text
abbrev pub trimmed : {T : Type 0} → (List ℕ → List ℕ) → List (Piece T) → List (Piece T)
trimmed trim [] = []
trimmed trim (Words text ∷ pieces) = words (trim text) ++ pieces
trimmed trim (Apart x ∷ pieces) = Apart x ∷ trimmed trim pieces
trimmed trim (Other x ∷ pieces) = Other x ∷ pieces

-- the same of one piece, before which the content began or not
abbrev pub trimmed_piece : {T : Type 0} → Bool → (List ℕ → List ℕ) → Piece T → List (Piece T)
trimmed_piece true trim piece = piece ∷ []
trimmed_piece false trim (Words text) = words (trim text)
trimmed_piece false trim (Apart x) = Apart x ∷ []
trimmed_piece false trim (Other x) = Other x ∷ []

abbrev pub trim_at : End → List ℕ → List ℕ
trim_at Front text = trim_start text
trim_at Back text = trim_end text

-- pieces without white space at their two ends
abbrev pub stripped : {T : Type 0} → List (Piece T) → List (Piece T)
stripped pieces = reverse (trimmed trim_end (reverse (trimmed trim_start pieces)))

-- what is kept of some pieces, which lose white space at their ends or not
abbrev pub kept : {T : Type 0} → Bool → List (Piece T) → List (Piece T)
kept strips pieces = if strips then stripped (joined pieces) else joined pieces
