-- The signs, of which the longest that a text begins with is read (ECMA-262, section 12.8).
use Rattle.std.specs.Prelude.{ℕ, ◌&&◌, ◌==◌, List, slice_index, Option, Some, None, if◌then◌else◌}
use Rattle.sv_lex.specs.declared.lexeme.Lexeme.{Lexeme}
use Rattle.sv_lex.specs.declared.lexeme.Lexeme.TheVariants.{Bad, Same, NotSame, Dots, Arrow, React, EqualEqual, BangEqual, LessEqual, MoreEqual, PlusEqual, MinusEqual, StarEqual, PercentEqual, AndAnd, OrOr, Nullish, PlusPlus, MinusMinus, LParen, RParen, LBracket, RBracket, LBrace, RBrace, Comma, Semi, Dot, Question, Colon, Bang, Minus, Plus, Star, Slash, Percent, Equal, Less, More, Backquote}

-- `===` `!==` `...`
abbrev pub of_three : ℕ → ℕ → ℕ → Option Lexeme
of_three b c d =
    if c == 61 && d == 61 then (if b == 61 then Some Same else (if b == 33 then Some NotSame else None))
    else (if b == 46 && c == 46 && d == 46 then Some Dots else None)

-- before `=`
abbrev pub with_equal : ℕ → Option Lexeme
with_equal b =
    if b == 61 then Some EqualEqual else (if b == 33 then Some BangEqual else (if b == 60 then Some LessEqual else (if b == 62 then Some MoreEqual else (
    if b == 43 then Some PlusEqual else (if b == 45 then Some MinusEqual else (if b == 42 then Some StarEqual else (if b == 37 then Some PercentEqual else None)))))))

-- `&&` `||` `??` `++` `--`
abbrev pub doubled : ℕ → Option Lexeme
doubled b =
    if b == 38 then Some AndAnd else (if b == 124 then Some OrOr else (if b == 63 then Some Nullish else (if b == 43 then Some PlusPlus else (
    if b == 45 then Some MinusMinus else None))))

abbrev pub of_two : ℕ → ℕ → Option Lexeme
of_two b c =
    if c == 61 then with_equal b else (if c == b then doubled b
    else (if b == 61 && c == 62 then Some Arrow else (if b == 36 && c == 58 then Some React else None)))

abbrev pub operator : ℕ → Lexeme
operator b =
    if b == 63 then Question else (if b == 58 then Colon else (if b == 33 then Bang else (if b == 45 then Minus else (
    if b == 43 then Plus else (if b == 42 then Star else (if b == 47 then Slash else (if b == 37 then Percent else (
    if b == 61 then Equal else (if b == 60 then Less else (if b == 62 then More else (if b == 96 then Backquote else Bad)))))))))))

abbrev pub of_one : ℕ → Lexeme
of_one b =
    if b == 40 then LParen else (if b == 41 then RParen else (if b == 91 then LBracket else (if b == 93 then RBracket else (
    if b == 123 then LBrace else (if b == 125 then RBrace else (if b == 44 then Comma else (if b == 59 then Semi else (
    if b == 46 then Dot else operator b))))))))

abbrev pub two_or_one : Option Lexeme → ℕ → Lexeme × ℕ
two_or_one None b = (of_one b, 1)
two_or_one (Some two) b = (two, 2)

abbrev pub three_or_less : Option Lexeme → ℕ → ℕ → Lexeme × ℕ
three_or_less None b c = two_or_one (of_two b c) b
three_or_less (Some three) b c = (three, 3)

-- the longest sign at the front and its bytes, or `Bad` for one byte
unfoldable pub sign : List ℕ → Lexeme × ℕ
sign z = three_or_less (of_three (slice_index z 0) (slice_index z 1) (slice_index z 2)) (slice_index z 0) (slice_index z 1)
