-- What strings and templates are written with, character by character.
use Rattle.std.specs.Prelude.{ℕ, zero, suc, ◌+◌, ◌-◌, Bool, ◌&&◌, ◌||◌, ◌==◌, nat_le, nat_lt, List, [], ◌∷◌, take, drop, slice_index, Option, Some, None, if◌then◌else◌}
use Rattle.bstr.specs.Utf8.{decoded}
use Rattle.sv_lex.specs.declared.digits.Base.TheVariants.{Sixteen}
use Rattle.sv_lex.specs.declared.strings.Quote.{Quote}
use Rattle.sv_lex.specs.declared.strings.Quote.TheVariants.{Single, Double, Back}
use Rattle.sv_lex.specs.Digits.{digits_len, number}

abbrev pub closing : Quote → ℕ
closing Single = 39
closing Double = 34
closing Back = 96

-- a string ends with its quote and has no line feed; a run of a template ends with the back quote or `${`
abbrev pub stops : Quote → ℕ → ℕ → Bool
stops Single b next = b == 39 || b == 10
stops Double b next = b == 34 || b == 10
stops Back b next = b == 96 || (b == 36 && next == 123)

-- `\n` `\t` `\r` `\\` `\'` `\"` `` \` `` `\$`
abbrev pub simple : ℕ → Option ℕ
simple b =
    if b == 110 then Some 10 else (if b == 116 then Some 9 else (if b == 114 then Some 13 else (if b == 92 then Some 92
    else (if b == 39 then Some 39 else (if b == 34 then Some 34 else (if b == 96 then Some 96 else (if b == 36 then Some 36 else None)))))))

-- a code that a character may have
abbrev pub is_scalar : ℕ → Bool
is_scalar code = nat_lt code 55296 || (nat_le 57344 code && nat_lt code 1114112)

-- `\u{H}`, with one to six hexadecimal digits of a code that a character may have; z stands behind the `\u`
unfoldable pub by_code : List ℕ → Option (ℕ × ℕ)
by_code z =
    let len = digits_len Sixteen (drop 1 z) in
    let code = number Sixteen (take len (drop 1 z)) in
    if slice_index z 0 == 123 && nat_le 1 len && nat_le len 6 && slice_index (drop 1 z) len == 125 && is_scalar code then Some (code, len + 4) else None

abbrev pub two_bytes : Option ℕ → Option (ℕ × ℕ)
two_bytes None = None
two_bytes (Some c) = Some (c, 2)

unfoldable pub escape : List ℕ → Option (ℕ × ℕ)
escape z = if slice_index z 1 == 117 then by_code (drop 2 z) else two_bytes (simple (slice_index z 1))

-- a character by itself
abbrev pub itself : Option ℕ → ℕ → Option (ℕ × ℕ)
itself None size = None
itself (Some c) size = Some (c, size)

-- the character that is written at the front, and with how many bytes
unfoldable pub written : Quote → List ℕ → Option (ℕ × ℕ)
written quote z =
    if slice_index z 0 == 92 then escape z
    else (if stops quote (slice_index z 0) (slice_index z 1) then None else itself (decoded z).char (decoded z).size)

abbrev pub bytes_of : Option (ℕ × ℕ) → ℕ
bytes_of None = 0
bytes_of (Some p) = p.1

-- with how many bytes, or 0 where none is
unfoldable pub written_len : Quote → List ℕ → ℕ
written_len quote z = bytes_of (written quote z)

-- the characters that are written one behind the other; the number counts what is left of the present one
abbrev pub then_more : Option (ℕ × ℕ) → (ℕ → List ℕ) → List ℕ
then_more None more = []
then_more (Some p) more = p.0 ∷ more (p.1 - 1)

unfoldable pub chars_by : Quote → ℕ → List ℕ → List ℕ
chars_by quote left [] = []
chars_by quote (suc left) (b ∷ z) = chars_by quote left z
chars_by quote zero (b ∷ z) = then_more (written quote (b ∷ z)) (λ left. chars_by quote left z)
