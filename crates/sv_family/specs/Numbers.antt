-- Marks and places, each of which stands once in what is shown on a page.
use Rattle.std.specs.Prelude.{◌≢◌, ℕ, ◌+◌, ◌≤◌, List}
use Rattle.sv_places.specs.Keeping.{parts_of}
use Rattle.sv_places.specs.Numbers.{count, given, numbers_all}
use Rattle.sv_shapes.specs.Showing.{Showing}

-- the numbers in what is shown of an instance
abbrev pub numbers_in : Showing → ℕ → List ℕ
numbers_in s q = numbers_all (parts_of s q)

-- each was given, and stands once, in what is shown of one instance and of two
pub record AreNumbers (s : Showing) (next : ℕ) : Type 0 where
  pub once : (q number : ℕ) → count number (numbers_in s q) ≤ given 0 next number
  pub apart : (q r number : ℕ) → q ≢ r → count number (numbers_in s q) + count number (numbers_in s r) ≤ given 0 next number
