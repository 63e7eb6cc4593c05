-- The whole numbers that a double holds exactly, with each of their neighbours (ECMA-262, section 21.1.2.6).
use Rattle.std.specs.Prelude.{ℤ, pos, negsuc, ◌≤ℤ◌}

-- from -(2^53 - 1) to 2^53 - 1
pub record IsSafe (n : ℤ) : Type 0 where
  pub at_least : negsuc 9007199254740990 ≤ℤ n
  pub at_most : n ≤ℤ pos 9007199254740991
