-- Whole numbers (ECMA-262, section 6.1.6.1, where the result is a safe integer).
use Rattle.std.specs.Prelude.{suc, ℤ, pos, negsuc, ◌+ℤ◌, ◌-ℤ◌, ◌*ℤ◌, int_le, int_div, int_rem, Bool, true, false, ◌&&◌, if◌then◌else◌}
use Rattle.std.specs.Int.{int_div_euclid}
use Rattle.std.specs.Ordering.{int_eq}
use Rattle.sv_value.specs.Value.{Val, number, boolean}
use Rattle.sv_ops.specs.declared.faults.FaultKind.TheVariants.{NotANumber, Range, ZeroDivisor}
use Rattle.sv_ops.specs.Answer.{Answer, Refuses, gives}

abbrev pub is_safe : ℤ → Bool
is_safe z = int_le (negsuc 9007199254740990) z && int_le z (pos 9007199254740991)

-- a number, where it is a safe integer
abbrev pub checked : ℤ → Answer
checked z = if is_safe z then gives (number z) else Refuses Range

-- an operation on two numbers
abbrev pub on_numbers : (ℤ → ℤ → Answer) → Val → Val → Answer
on_numbers f (number a) (number b) = f a b
on_numbers f _ _ = Refuses NotANumber

-- where the divisor isn't 0
abbrev pub divided : (ℤ → ℤ → ℤ) → ℤ → ℤ → Answer
divided f a b = if int_eq b (pos 0) then Refuses ZeroDivisor else checked (f a b)

abbrev pub sum : ℤ → ℤ → Answer
sum a b = checked (a +ℤ b)

abbrev pub difference : Val → Val → Answer
difference = on_numbers (λ a b. checked (a -ℤ b))

abbrev pub product : Val → Val → Answer
product = on_numbers (λ a b. checked (a *ℤ b))

-- the remainder has the sign of the dividend
abbrev pub remainder : Val → Val → Answer
remainder = on_numbers (divided int_rem)

-- the greatest whole number that isn't above the quotient, and the one next to it towards 0
abbrev pub floored : ℤ → ℤ → ℤ
floored a (pos b) = int_div_euclid a (pos b)
floored a (negsuc b) = int_div_euclid (pos 0 -ℤ a) (pos (suc b))

-- the quotient of two numbers, rounded
abbrev pub quotient : Bool → Val → Val → Answer
quotient true = on_numbers (divided int_div)
quotient false = on_numbers (divided floored)

abbrev pub compared : (ℤ → ℤ → Bool) → Val → Val → Answer
compared f = on_numbers (λ a b. gives (boolean (f a b)))

-- a number one up or down
abbrev pub bumped : Bool → Val → Answer
bumped true v = on_numbers sum v (number (pos 1))
bumped false v = difference v (number (pos 1))

abbrev pub negated : Val → Answer
negated v = difference (number (pos 0)) v
