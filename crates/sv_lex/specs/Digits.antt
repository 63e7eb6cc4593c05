-- Digits, and the numbers that they write (ECMA-262, section 12.9.3).
use Rattle.std.specs.Prelude.{ℕ, ◌+◌, ◌-◌, ◌*◌, ◌&&◌, nat_le, nat_lt, List, fold, if◌then◌else◌}
use Rattle.std.specs.List.{prefix_len}
use Rattle.sv_lex.specs.declared.digits.Base.{Base}
use Rattle.sv_lex.specs.declared.digits.Base.TheVariants.{Ten, Sixteen}

-- the value of a digit of either kind, or 16 for what is none
abbrev pub value_of : ℕ → ℕ
value_of b =
    if nat_le 48 b && nat_le b 57 then b - 48
    else (if nat_le 97 b && nat_le b 102 then b - 97 + 10 else (if nat_le 65 b && nat_le b 70 then b - 65 + 10 else 16))

abbrev pub size_of : Base → ℕ
size_of Ten = 10
size_of Sixteen = 16

-- how many digits stand at the front
abbrev pub digits_len : Base → List ℕ → ℕ
digits_len base z = prefix_len (λ b. nat_lt (value_of b) (size_of base)) z

-- the number that they write
abbrev pub number : Base → List ℕ → ℕ
number base digits = fold (λ n b. size_of base * n + value_of b) 0 digits
