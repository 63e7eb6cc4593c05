-- Named files, and what is found under a name.
use Rattle.std.specs.Prelude.{ℕ, List, [], ◌∷◌, Option, Some, None, if◌then◌else◌, nat_eq}
use Rattle.std.specs.Cmp.Lexicographic.{pointwise}

-- names with the bytes of their files
abbrev pub Files : Type 0
Files = List (List ℕ × List ℕ)

-- the bytes of the first file of that name
abbrev pub find_file : Files → List ℕ → Option (List ℕ)
find_file [] name = None
find_file (file ∷ files) name = if pointwise nat_eq file.0 name then Some file.1 else find_file files name
