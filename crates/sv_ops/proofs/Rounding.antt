-- The floor of a quotient, by the sign of the divisor.
use Rattle.std.proofs.Common.{arith, ◌≡◌, ℤ, pos, negsuc, true, false, refl, ap}
use Rattle.std.specs.Prelude.{◌-ℤ◌, int_lt}
use Rattle.std.specs.Int.{int_div_euclid}
use Rattle.std.proofs.lemmas.Int.{ints, to_z-of_z}
use Rattle.sv_ops.specs.Numbers.{floored}

pub floored-below : (a b : ℤ) → int_lt b (pos 0) ≡ true → floored a b ≡ int_div_euclid (pos 0 -ℤ a) (pos 0 -ℤ b)
floored-below a (pos n) h = absurd (grind (arith, ints))
floored-below a (negsuc n) h = ap (int_div_euclid (pos 0 -ℤ a)) (omega (arith, ints))

pub floored-above : (a b : ℤ) → int_lt b (pos 0) ≡ false → floored a b ≡ int_div_euclid a b
floored-above a (pos n) h = refl
floored-above a (negsuc n) h = absurd (grind (arith, ints))

pub ruleset floors = (ints, to_z-of_z, floored-below, floored-above)
