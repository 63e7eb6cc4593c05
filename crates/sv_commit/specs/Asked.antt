-- The numbers of what is to be shown.
use Rattle.std.specs.Prelude.{◌≡◌, ℕ, true, List}
use Rattle.std.specs.BTreeSet.{BTreeSet, contains}
use Rattle.std.specs.Ordering.{nat_cmp}
use Rattle.sv_tokens.specs.Counting.{Has}
use Rattle.sv_live.specs.declared.node.Node.{Node}
use Rattle.sv_live.specs.Known.{asks}

-- the numbers that were there are there still
abbrev pub Grows : BTreeSet ℕ → BTreeSet ℕ → Type 0
Grows old new = (n : ℕ) → contains nat_cmp old n ≡ true → contains nat_cmp new n ≡ true

-- the number is there, and those that were
pub record Adds (old new : BTreeSet ℕ) (number : ℕ) : Type 0 where
  pub here : contains nat_cmp new number ≡ true
  pub grows : Grows old new

-- the numbers of those are there, and those that were
pub record Holds (old new : BTreeSet ℕ) (nodes : List Node) : Type 0 where
  pub here : (n : ℕ) → Has (asks n) nodes → contains nat_cmp new n ≡ true
  pub grows : Grows old new
