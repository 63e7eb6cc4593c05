-- Ways from one point to another.
use Rattle.std.specs.Prelude.{◌≡◌, ℕ, true, List}
use Rattle.sv_graph.specs.Links.{is_in}

-- a point is linked to another, or to one that leads there
pub data Path (links : ℕ → List ℕ) : ℕ → ℕ → Type 0 where
  one : {p q : ℕ} → is_in q (links p) ≡ true → Path links p q
  more : {p q r : ℕ} → is_in q (links p) ≡ true → Path links q r → Path links p r
