-- Visiting points that are linked to others.
use Rattle.std.specs.Prelude.{◌≡◌, ℕ, true, false, List, [], ◌∷◌, ◌++◌, if◌then◌else◌}
use Rattle.sv_graph.specs.Links.{is_in}

-- the list with a point placed at its end, if it is not there yet
abbrev pub with_point : ℕ → List ℕ → List ℕ
with_point p placed = if is_in p placed then placed else placed ++ p ∷ []

-- What is placed before and after some points are visited in order. A point that is placed is passed over. A visit of
-- another visits those that it is linked to, in their order, and then places it.
pub data Visits (links : ℕ → List ℕ) : List ℕ → List ℕ → List ℕ → Type 0 where
  none : {placed : List ℕ} → Visits links placed [] placed
  again : {p : ℕ} {points placed after : List ℕ} → is_in p placed ≡ true → Visits links placed points after → Visits links placed (p ∷ points) after
  first : {p : ℕ} {points placed between after : List ℕ} → is_in p placed ≡ false → Visits links placed (links p) between → Visits links (with_point p between) points after
      → Visits links placed (p ∷ points) after
