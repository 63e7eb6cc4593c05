-- Numbers that users type: an optional minus sign, and one or more digits.
use Rattle.std.specs.Char.{is_ascii_digit}
use Rattle.std.specs.Fmt.{signed_decimal}
use Rattle.std.specs.List.{list_all}
use Rattle.std.specs.Option.{option_map_or}
use Rattle.std.specs.Prelude.{ℕ, ◌+◌, ◌-◌, ◌*◌, ℤ, pos, neg_ℤ, nat_eq, nat_le, Bool, not, ◌==◌, ◌&&◌, length, List, [], ◌∷◌, fold, Option, Some, None, if◌then◌else◌}
use Rattle.sv_value.specs.Value.{Val, null, number}

-- the number that digits write
abbrev pub digits_number : List ℕ → ℕ
digits_number digits = fold (λ n b. 10 * n + (b - 48)) 0 digits

-- one or more digits
abbrev pub is_numeral : List ℕ → Bool
is_numeral digits = not (length digits == 0) && list_all is_ascii_digit digits

-- a number with a sign, where its size is at most 2^53 - 1
abbrev pub in_range : (ℕ → ℤ) → ℕ → Option ℤ
in_range sign n = if nat_le n 9007199254740991 then Some (sign n) else None

abbrev pub signed : (ℕ → ℤ) → List ℕ → Option ℤ
signed sign digits = if is_numeral digits then in_range sign (digits_number digits) else None

-- the whole number that a text writes, if it writes one that is in range
abbrev pub number_in : List ℕ → Option ℤ
number_in [] = None
number_in (b ∷ bs) = if nat_eq b 45 then signed (λ n. neg_ℤ (pos n)) bs else signed pos (b ∷ bs)

-- the plain decimal spelling of that number, or nothing
abbrev pub spelling : List ℕ → List ℕ
spelling t = option_map_or signed_decimal (number_in t) []

-- that number as a value, or `null`
abbrev pub number_or_null : List ℕ → Val
number_or_null t = option_map_or number (number_in t) null
