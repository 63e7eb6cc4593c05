-- The token at the front of a text, by longest match.
use Rattle.std.specs.Prelude.{ℕ, ◌+◌, ◌&&◌, ◌==◌, nat_le, List, [], ◌∷◌, take, drop, slice_index, if◌then◌else◌}
use Rattle.sv_lex.specs.declared.characters.Class.TheVariants as class
use Rattle.sv_lex.specs.declared.digits.Base.TheVariants.{Ten}
use Rattle.sv_lex.specs.declared.lexeme.Lexeme.{Lexeme}
use Rattle.sv_lex.specs.declared.lexeme.Lexeme.TheVariants.{End, Bad, Name, Store, Numeral, Quoted}
use Rattle.sv_lex.specs.declared.pieces.Piece.TheVariants as piece
use Rattle.sv_lex.specs.declared.strings.Quote.{Quote}
use Rattle.sv_lex.specs.declared.strings.Quote.TheVariants as quote
use Rattle.sv_lex.specs.Characters.{char_len}
use Rattle.sv_lex.specs.Digits.{digits_len}
use Rattle.sv_lex.specs.Pieces.{run_len}
use Rattle.sv_lex.specs.Signs.{sign}
use Rattle.sv_lex.specs.Strings.{closing}
use Rattle.sv_lex.specs.Words.{keyword}

-- a lexeme, and how many bytes it takes
abbrev pub Token : Type 0
Token = Lexeme × ℕ

-- how many bytes the name at the front takes, words that are no names included
abbrev pub with_rest : ℕ → List ℕ → ℕ
with_rest first z = if first == 0 then 0 else first + run_len piece.NameRest (drop first z)

unfoldable pub name_len : List ℕ → ℕ
name_len z = with_rest (char_len class.NameStart z) z

-- a numeral of this length, unless a name follows it directly
abbrev pub alone : ℕ → List ℕ → Token
alone len z = if char_len class.NameStart (drop len z) == 0 then (Numeral, len) else (Bad, 1)

-- a numeral is 0, or begins with another digit
unfoldable pub numeral : List ℕ → Token
numeral z = alone (if slice_index z 0 == 48 then 1 else digits_len Ten z) z

-- a store name is `$` directly before a name
abbrev pub store_of : Lexeme → ℕ → Token
store_of Name len = (Store, len + 1)
store_of _ len = (Bad, 1)

unfoldable pub store : List ℕ → Token
store z = if name_len (drop 1 z) == 0 then sign z else store_of (keyword (take (name_len (drop 1 z)) (drop 1 z))) (name_len (drop 1 z))

-- a string goes on to its closing quote
abbrev pub closed : Quote → ℕ → List ℕ → Token
closed quote len z = if slice_index (drop 1 z) len == closing quote then (Quoted, len + 2) else (Bad, 1)

unfoldable pub quoted : Quote → List ℕ → Token
quoted quote z = closed quote (run_len (piece.Written quote) (drop 1 z)) z

-- a token that begins with no character that a name does; a comment without an end is none
unfoldable pub other : List ℕ → Token
other z =
    let b = slice_index z 0 in
    if nat_le 48 b && nat_le b 57 then numeral z else (if b == 36 then store z
    else (if b == 39 then quoted quote.Single z else (if b == 34 then quoted quote.Double z
    else (if b == 47 && slice_index z 1 == 42 then (Bad, 1) else sign z))))

abbrev pub name_or_other : ℕ → List ℕ → Token
name_or_other len z = if len == 0 then other z else (keyword (take len z), len)

unfoldable pub token : List ℕ → Token
token [] = (End, 0)
token (b ∷ z) = name_or_other (name_len (b ∷ z)) (b ∷ z)
