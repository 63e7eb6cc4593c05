-- Lists that steps give.
use Rattle.std.specs.Prelude.{ℕ, suc, List, [], ◌∷◌, ◌++◌}

-- what a step gives for each item and its number, one behind the other, from an item with a number on
abbrev pub each : {A B : Type 0} → (A → ℕ → List B) → ℕ → List A → List B
each step i [] = []
each step i (x ∷ xs) = step x i ++ each step (suc i) xs
