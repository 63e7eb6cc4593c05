-- What is so of one of some things.
use Rattle.std.specs.Prelude.{◌⊎◌, List, [], ◌∷◌}

abbrev pub Any : {A : Type 0} → (A → Type 0) → List A → Type 0
Any Q [] = ⊥
Any Q (x ∷ xs) = Q x ⊎ Any Q xs
