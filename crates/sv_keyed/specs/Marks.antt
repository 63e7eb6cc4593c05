-- The old keys that are left, where each that went or was placed is marked.
use Rattle.std.specs.Prelude.{◌≡◌, ℕ, ◌≤◌, ◌<◌, Bool, true, List, [], ◌∷◌, length, if◌then◌else◌, slice_index_or}
use Rattle.sv_value.specs.declared.key.Key.{Key}

-- the keys without a mark
abbrev pub left : List Bool → List Key → List Key
left [] xs = []
left (m ∷ ms) [] = []
left (m ∷ ms) (x ∷ xs) = if m then left ms xs else x ∷ left ms xs

-- every key from this place on is marked
pub record AreMarked (marks : List Bool) (end : ℕ) : Type 0 where
  pub at : (k : ℕ) → end ≤ k → k < length marks → slice_index_or marks k true ≡ true
