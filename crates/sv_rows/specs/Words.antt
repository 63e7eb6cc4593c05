-- What answers are made of.
use Rattle.std.specs.Prelude.{Bool, ℕ, List, ◌∷◌, [], ◌++◌, codes, true, false}

-- an answer with a gap behind it, if it has anything
abbrev pub with_gap : List ℕ → List ℕ → List ℕ
with_gap [] gap = []
with_gap (b ∷ bs) gap = (b ∷ bs) ++ gap

abbrev pub yes_or_no : Bool → List ℕ
yes_or_no true = codes "yes"
yes_or_no false = codes "no"
