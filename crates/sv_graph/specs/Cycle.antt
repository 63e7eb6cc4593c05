-- Cycles of a relation between points.
use Rattle.std.specs.Prelude.{◌≡◌, ℕ, ◌≤◌, true, List, [], ◌∷◌, slice_index}
use Rattle.sv_graph.specs.Links.{is_in}

-- from p on, each point of the list is related to the next, and the last to the end
abbrev pub Leads : (ℕ → ℕ → Type 0) → ℕ → List ℕ → ℕ → Type 0
Leads R p [] end = R p end
Leads R p (q ∷ points) end = R p q × Leads R q points end

-- each point is related to the next, and the last to the first
abbrev pub IsCycle : (ℕ → ℕ → Type 0) → List ℕ → Type 0
IsCycle R [] = ⊥
IsCycle R (p ∷ points) = Leads R p points p

-- a cycle that begins with the first point on any
pub record IsFirstCycle (R : ℕ → ℕ → Type 0) (cycle : List ℕ) : Type 0 where
  pub is_cycle : IsCycle R cycle
  pub is_first : (other : List ℕ) (p : ℕ) → IsCycle R other → is_in p other ≡ true → slice_index cycle 0 ≤ p
