-- The tokens of a text, one behind the other.
use Rattle.std.specs.Prelude.{ℕ, Bool, ◌&&◌, ◌==◌, List, length, drop}
use Rattle.std.specs.List.{list_any}
use denote.Enum.Bare.{sameb}
use Rattle.sv_lex.specs.contracts.lexeme.Lexeme.{the_type}
use Rattle.sv_lex.specs.declared.lexeme.Lexeme.{Lexeme}
use Rattle.sv_lex.specs.declared.lexeme.Lexeme.TheVariants.{Name}
use Rattle.sv_lex.specs.declared.pieces.Piece.TheVariants.{Blank}
use Rattle.sv_lex.specs.Pieces.{rest}
use Rattle.sv_lex.specs.Token.{token}

-- `==` on kinds of tokens
unfoldable pub same_lexeme : Lexeme → Lexeme → Bool
same_lexeme = sameb the_type

-- the text from its first token on, behind white space and comments
unfoldable pub skip : List ℕ → List ℕ
skip z = rest Blank z

-- the kind of the first token
unfoldable pub first : List ℕ → Lexeme
first z = (token (skip z)).0

-- how many bytes it takes
unfoldable pub first_len : List ℕ → ℕ
first_len z = (token (skip z)).1

-- the text behind it
unfoldable pub past : List ℕ → List ℕ
past z = drop (first_len z) (skip z)

-- whether a line ends in the text
unfoldable pub has_line_end : List ℕ → Bool
has_line_end z = list_any (λ b. b == 10) z

-- whether the text is one name
unfoldable pub is_name : List ℕ → Bool
is_name z = same_lexeme (token z).0 Name && (token z).1 == length z
