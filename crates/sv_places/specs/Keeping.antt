-- What a plan does with child components, counted by the places at which they stand.
use Rattle.std.specs.Prelude.{◌≡◌, ℕ, ◌+◌, ◌≤◌, List, [], ◌∷◌, ◌++◌, map, Option}
use Rattle.sv_code.specs.declared.fragments.Frag.{Frag}
use Rattle.sv_code.specs.declared.program.Program.{Program}
use Rattle.sv_parts.specs.declared.state.Effect.{Effect}
use Rattle.sv_parts.specs.declared.state.Effect.TheVariants.{Create, Set, Destroy}
use Rattle.sv_parts.specs.declared.state.Kept.{Kept}
use Rattle.sv_parts.specs.declared.state.State.{State}
use Rattle.sv_places.specs.Fits.{Fits}
use Rattle.sv_places.specs.Numbers.{numbers_all, count, given}
use Rattle.sv_plan.specs.Patch.{After, old_parts}
use Rattle.sv_shapes.specs.Places.{joined, places_all}
use Rattle.sv_shapes.specs.Showing.{Showing, shown_of}
use Rattle.sv_shapes.specs.declared.shape.Shape.{Shape}

-- ---- places of effects

abbrev pub created_by : Effect → List ℕ
created_by (Create place tag props view) = place ∷ []
created_by _ = []

abbrev pub set_by : Effect → List ℕ
set_by (Set place props view) = place ∷ []
set_by _ = []

abbrev pub destroyed_by : Effect → List ℕ
destroyed_by (Destroy place) = place ∷ []
destroyed_by _ = []

-- the places at which a child is made, is set something, and goes
abbrev pub created_at : List Effect → List ℕ
created_at effects = joined (map created_by effects)

abbrev pub set_at : List Effect → List ℕ
set_at effects = joined (map set_by effects)

abbrev pub destroyed_at : List Effect → List ℕ
destroyed_at effects = joined (map destroyed_by effects)

-- the places that stay
abbrev pub kept_at : List Kept → List ℕ
kept_at kept = map (λ k. k.place) kept

-- ---- what holds of them

-- places that were there and places that are there now: each that was there or is made is there or goes, as often; each that is there stays or is
-- made; and what is set stays
pub record Keeps (old new : List ℕ) (effects : List Effect) (kept : List Kept) : Type 0 where
  pub lost : (n : ℕ) → count n new + count n (destroyed_at effects) ≡ count n old + count n (created_at effects)
  pub there : (n : ℕ) → count n new ≡ count n (kept_at kept) + count n (created_at effects)
  pub set : (n : ℕ) → count n (set_at effects) ≤ count n (kept_at kept)

-- numbers that were there and numbers that are there now, while the next one goes from one to another: it never falls, and each number that is there
-- for the first time, or at which a child is made, is given once
pub record Gives (old new : List ℕ) (effects : List Effect) (from to : ℕ) : Type 0 where
  pub next : from ≤ to
  pub numbers : (n : ℕ) → count n new ≤ count n old + given from to n
  pub created : (n : ℕ) → count n (created_at effects) ≤ given from to n

-- what a plan adds to the effects and the places before it: no child is lost, and numbers are given once
pub record Follows (old new : List Shape) (s s' : State) : Type 0 where
  pub effects : List Effect
  pub kept : List Kept
  pub effects_are : s'.effects ≡ s.effects ++ effects
  pub kept_are : s'.kept ≡ s.kept ++ kept
  pub keeps : Keeps (places_all old) (places_all new) effects kept
  pub gives : Gives (numbers_all old) (numbers_all new) effects s.counters.next s'.counters.next

-- ---- patches

-- what is shown of an instance
abbrev pub parts_of : Showing → ℕ → List Shape
parts_of page n = old_parts (shown_of page n)

-- what a patch of an instance leaves: shapes that fit, no child lost, and numbers given once
pub record Patches (p : Program) (tags : List (Option ℕ)) (n : ℕ) (markup : List Frag) (page : Showing) (next : ℕ) (after : After) : Type 0 where
  pub fits : Fits p tags markup (parts_of after.showing n)
  pub keeps : Keeps (places_all (parts_of page n)) (places_all (parts_of after.showing n)) after.effects after.kept
  pub gives : Gives (numbers_all (parts_of page n)) (numbers_all (parts_of after.showing n)) after.effects next after.counters.next
