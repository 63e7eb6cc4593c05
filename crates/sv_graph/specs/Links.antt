-- Points by number, each with the points that it is linked to.
use Rattle.std.specs.Prelude.{◌≡◌, ℕ, ◌<◌, ◌==◌, ◌⊎◌, Bool, true, List, [], length, slice_index_or}
use Rattle.std.specs.List.{list_any}

-- whether a point is in a list
abbrev pub is_in : ℕ → List ℕ → Bool
is_in p points = list_any (λ x. x == p) points

-- the points that a point is linked to, in their order
abbrev pub links_of : List (List ℕ) → ℕ → List ℕ
links_of links p = slice_index_or links p []

-- each point that one is linked to is there
pub record IsWhole (links : List (List ℕ)) : Type 0 where
  pub within : (p q : ℕ) → is_in q (links_of links p) ≡ true → q < length links

-- a point is linked to another
abbrev pub IsLink : List (List ℕ) → ℕ → ℕ → Type 0
IsLink links p q = is_in q (links_of links p) ≡ true

-- each of some points was linked to one more
pub record AddsLinks (old : List (List ℕ)) (from : List ℕ) (to : ℕ) (new : List (List ℕ)) : Type 0 where
  pub keeps : (p q : ℕ) → IsLink old p q → IsLink new p q
  pub adds : (p : ℕ) → is_in p from ≡ true → IsLink new p to
  pub only : (p q : ℕ) → IsLink new p q → IsLink old p q ⊎ ((q ≡ to) × (is_in p from ≡ true))

-- a point is linked to another exactly where that one was linked to it
pub record IsTurned (links turned : List (List ℕ)) : Type 0 where
  pub there : (p q : ℕ) → IsLink links p q → IsLink turned q p
  pub back : (p q : ℕ) → IsLink turned q p → IsLink links p q
