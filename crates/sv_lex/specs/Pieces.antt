-- Texts that are read piece by piece.
use Rattle.std.specs.Prelude.{ℕ, zero, suc, ◌-◌, ◌==◌, List, [], ◌∷◌, length, if◌then◌else◌}
use Rattle.sv_lex.specs.declared.characters.Class.TheVariants as class
use Rattle.sv_lex.specs.declared.pieces.Piece.{Piece}
use Rattle.sv_lex.specs.declared.pieces.Piece.TheVariants.{Blank, NameRest, Written}
use Rattle.sv_lex.specs.Characters.{char_len}
use Rattle.sv_lex.specs.Comments.{blank_len}
use Rattle.sv_lex.specs.Strings.{written_len}

-- how many bytes the piece at the front takes, or 0 where there is none
abbrev pub piece_len : Piece → List ℕ → ℕ
piece_len Blank z = blank_len z
piece_len NameRest z = char_len class.NameRest z
piece_len (Written quote) z = written_len quote z

-- the text behind the pieces at its front; the number counts what is left of the present piece
unfoldable pub rest_by : Piece → ℕ → List ℕ → List ℕ
rest_by piece left [] = []
rest_by piece (suc left) (b ∷ z) = rest_by piece left z
rest_by piece zero (b ∷ z) = if piece_len piece (b ∷ z) == 0 then b ∷ z else rest_by piece (piece_len piece (b ∷ z) - 1) z

unfoldable pub rest : Piece → List ℕ → List ℕ
rest piece z = rest_by piece 0 z

-- how many bytes the pieces at the front take
unfoldable pub run_len : Piece → List ℕ → ℕ
run_len piece z = length z - length (rest piece z)
