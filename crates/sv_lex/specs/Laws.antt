-- What is read is the longest that stands there.
use Rattle.std.specs.Prelude.{◌≡◌, ℕ, List, slice_index, None}
use Rattle.sv_lex.specs.declared.pieces.Piece.{Piece}
use Rattle.sv_lex.specs.Pieces.{piece_len, rest}
use Rattle.sv_lex.specs.Signs.{sign, of_two, of_three}

-- behind white space, names and texts stands no further piece
abbrev pub ReadsOn : Type 0
ReadsOn = (piece : Piece) (z : List ℕ) → piece_len piece (rest piece z) ≡ 0

-- no sign of three bytes begins the text
abbrev pub NoThree : List ℕ → Type 0
NoThree z = of_three (slice_index z 0) (slice_index z 1) (slice_index z 2) ≡ None

-- no sign of two bytes begins the text
abbrev pub NoTwo : List ℕ → Type 0
NoTwo z = of_two (slice_index z 0) (slice_index z 1) ≡ None

-- no longer sign begins the text than the one that is read
abbrev pub LongestSign : Type 0
LongestSign = (z : List ℕ) → ((sign z).1 ≡ 1 → NoTwo z × NoThree z) × ((sign z).1 ≡ 2 → NoThree z)
