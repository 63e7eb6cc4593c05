-- What numerals, strings and the runs of templates stand for.
use Rattle.std.specs.Prelude.{ℕ, ◌+◌, Bool, ◌&&◌, ◌==◌, nat_le, List, drop, slice_index, Ok, Err, if◌then◌else◌, ℤ, pos, encode_utf8_all}
use Rattle.sv_ast.specs.declared.refusals.Kind.TheVariants.{Syntax, NumberTooWide}
use Rattle.sv_lex.specs.declared.cursor.Run.{Run}
use Rattle.sv_lex.specs.declared.digits.Base.TheVariants.{Ten}
use Rattle.sv_lex.specs.declared.pieces.Piece.TheVariants.{Written}
use Rattle.sv_lex.specs.declared.strings.Quote.{Quote}
use Rattle.sv_lex.specs.declared.strings.Quote.TheVariants.{Single, Double, Back}
use Rattle.sv_lex.specs.Digits.{number}
use Rattle.sv_lex.specs.Look.{skip}
use Rattle.sv_lex.specs.Pieces.{rest, run_len}
use Rattle.sv_lex.specs.Reader.{Input, Parser, spelling, next, refuse}
use Rattle.sv_lex.specs.Strings.{chars_by}

-- the number that the next token writes; one that is wider than the limit is refused at its digits
unfoldable pub numeral : ℕ → Parser ℤ
numeral limit = λ i. if nat_le (number Ten (spelling i)) limit then Ok (pos (number Ten (spelling i)), next i) else refuse NumberTooWide i

-- what is written, as text
unfoldable pub text_of : Quote → List ℕ → List ℕ
text_of quote z = encode_utf8_all (chars_by quote 0 z)

abbrev pub quote_of : ℕ → Quote
quote_of b = if b == 39 then Single else Double

-- the string that the next token writes
unfoldable pub string : Parser (List ℕ)
string = λ i. Ok (text_of (quote_of (slice_index (skip i.text) 0)) (drop 1 (skip i.text)), next i)

-- ---- a run of a template

abbrev pub moved : ℕ → Input → Input
moved n i = record i { text = drop n i.text; at = i.at + n }

-- the run of this many bytes
abbrev pub run_of : ℕ → Input → Run
run_of n i = record { text = text_of Back i.text; span = record { file = i.file; from = i.at; to = i.at + n } }

-- how many bytes the end of a run at the front takes: the back quote or `${`, or 0 where there is none
abbrev pub end_len : List ℕ → ℕ
end_len z = if slice_index z 0 == 96 then 1 else (if slice_index z 0 == 36 && slice_index z 1 == 123 then 2 else 0)

abbrev pub ends_at : ℕ → ℕ → Parser (Run × Bool)
ends_at n ending i =
    if ending == 0 then Err (record { kind = Syntax; at = record { file = i.file; from = i.at + n; to = i.at + n } })
    else Ok ((run_of n i, ending == 2), moved (n + ending) i)

-- the run of a template that begins directly behind the last token, with what ends it, and whether that is a `${`
unfoldable pub run : Parser (Run × Bool)
run = λ i. ends_at (run_len (Written Back) i.text) (end_len (rest (Written Back) i.text)) i
