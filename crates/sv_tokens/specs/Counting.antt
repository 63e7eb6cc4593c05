-- How often something stands in a list.
use Rattle.std.specs.Prelude.{◌≤◌, Bool, true, false, ℕ, ◌+◌, List, [], ◌∷◌}

abbrev pub one : Bool → ℕ
one true = 1
one false = 0

-- how many pass
abbrev pub times : {A : Type 0} → (A → Bool) → List A → ℕ
times p [] = 0
times p (x ∷ xs) = one (p x) + times p xs

-- some one passes
abbrev pub Has : {A : Type 0} → (A → Bool) → List A → Type 0
Has p xs = 1 ≤ times p xs

-- the first passes
abbrev pub leads : {A : Type 0} → (A → Bool) → List A → Bool
leads p [] = false
leads p (x ∷ xs) = p x
