-- Bound props and subscriptions.
use Rattle.std.specs.Prelude.{ℕ, nat_eq, if◌then◌else◌, List, [], ◌∷◌, Option, Some, None, refl}
use Rattle.std.specs.Coded.{Coded, code_by, coded×, coded_ℕ}

-- a prop's cell, and the variable that it is bound to: the owner's number and its cell
pub record Bound : Type 0 where
  pub cell : ℕ
  pub owner : ℕ
  pub target : ℕ

abbrev pub bound_code : Coded Bound
bound_code = code_by (ℕ × (ℕ × ℕ)) (coded× coded_ℕ (coded× coded_ℕ coded_ℕ)) (λ b. (b.cell, (b.owner, b.target))) (λ p. record { cell = p.0; owner = p.1.0; target = p.1.1 }) (λ _. refl)

-- what a cell is bound to: the last that it was bound to, which stands first
abbrev pub bound_at : List Bound → ℕ → Option Bound
bound_at [] cell = None
bound_at (b ∷ bounds) cell = if nat_eq b.cell cell then Some b else bound_at bounds cell
