-- The points that some starts lead to.
use Rattle.std.specs.Prelude.{◌≡◌, ℕ, ◌+◌, ◌*◌, ◌≤◌, ◌⊎◌, not, Bool, true, false, List, [], ◌∷◌, ◌++◌, length, slice_set, count_by}
use Rattle.sv_graph.specs.Links.{is_in}
use Rattle.sv_graph.specs.Search.{met_at}

-- a point is a start, or one that is reached is linked to it
pub data Leads (links : ℕ → List ℕ) (starts : List ℕ) : ℕ → Type 0 where
  start : {p : ℕ} → is_in p starts ≡ true → Leads links starts p
  further : {p q : ℕ} → Leads links starts p → is_in q (links p) ≡ true → Leads links starts q

-- just the points that the starts lead to were met
pub record IsReached (links : ℕ → List ℕ) (starts : List ℕ) (count : ℕ) (met : List Bool) : Type 0 where
  pub size : length met ≡ count
  pub only : (p : ℕ) → met_at met p ≡ true → Leads links starts p
  pub each : (p : ℕ) → Leads links starts p → met_at met p ≡ true

-- the starts were met, and what a point that was met is linked to was met too, or the point is still stacked
pub record IsReaching (links : ℕ → List ℕ) (starts : List ℕ) (count : ℕ) (met : List Bool) (stack : List ℕ) : Type 0 where
  pub size : length met ≡ count
  pub only : (p : ℕ) → met_at met p ≡ true → Leads links starts p
  pub begun : (p : ℕ) → is_in p starts ≡ true → met_at met p ≡ true
  pub stacked : (p : ℕ) → is_in p stack ≡ true → met_at met p ≡ true
  pub closed : (p q : ℕ) → met_at met p ≡ true → is_in q (links p) ≡ true → (met_at met q ≡ true) ⊎ (is_in p stack ≡ true)

-- a point is met again or for the first time
abbrev pub Adds : Bool → ℕ → List Bool → List ℕ → List Bool → List ℕ → Type 0
Adds true p met stack met' stack' = (met' ≡ met) × (stack' ≡ stack)
Adds false p met stack met' stack' = (met' ≡ slice_set met p true) × (stack' ≡ stack ++ p ∷ [])

-- some points were met, and stacked where they were new
pub record Reaches (points : List ℕ) (met : List Bool) (stack : List ℕ) (met' : List Bool) (stack' : List ℕ) : Type 0 where
  pub size : length met' ≡ length met
  pub keeps : (p : ℕ) → met_at met p ≡ true → met_at met' p ≡ true
  pub adds : (p : ℕ) → is_in p points ≡ true → met_at met' p ≡ true
  pub only : (p : ℕ) → met_at met' p ≡ true → (met_at met p ≡ true) ⊎ (is_in p points ≡ true)
  pub stays : (p : ℕ) → is_in p stack ≡ true → is_in p stack' ≡ true
  pub stacks : (p : ℕ) → is_in p stack' ≡ true → (is_in p stack ≡ true) ⊎ (is_in p points ≡ true)
  pub waits : (p : ℕ) → met_at met' p ≡ true → (met_at met p ≡ true) ⊎ (is_in p stack' ≡ true)
  pub less : 2 * count_by not met' + length stack' ≤ 2 * count_by not met + length stack
