-- What is kept of instances' cells in views: in those that instances were lent by their owners, and in those on which instances were shown last.
use Rattle.std.specs.Prelude.{◌≡◌, ◌<◌, ◌⊎◌, ℕ, List, [], ◌∷◌, length, Option, Some, slice_get}
use Rattle.sv_flush.specs.declared.page.Page.{Page}
use Rattle.sv_frame.specs.Snapshots.{Snapshot, snapshots}
use Rattle.sv_frame.specs.Views.{lent_views}
use Rattle.sv_instance.specs.Cells.{count_of, present}
use Rattle.sv_numbered.specs.Numbered.{at}
use Rattle.sv_shapes.specs.declared.shown.Shown.{Shown}
use Rattle.sv_states.specs.Sound.{IsLater}
use Rattle.sv_view.specs.Cell.{Cell}
use Rattle.sv_view.specs.Level.{Level, View}
use Rattle.sv_view.specs.View.{levels}

-- ---- levels

-- at one of some levels stands an instance by its number, with these cells
abbrev pub StandsIn : List Level → ℕ → List Cell → Type 0
StandsIn [] n cells = ⊥
StandsIn (l ∷ ls) n cells = ((l.inst ≡ n) × (l.cells ≡ cells)) ⊎ StandsIn ls n cells

-- a view is one of those on which something is shown
abbrev pub IsShownOn : List (ℕ × Shown) → View → Type 0
IsShownOn [] v = ⊥
IsShownOn (e ∷ shown) v = (e.1.view ≡ v) ⊎ IsShownOn shown v

-- a live instance was lent the view
pub record IsLent (lent : List (Option (Option View))) (v : View) : Type 0 where
  pub number : ℕ
  pub there : at lent number ≡ Some (Some v)

-- so stands an instance in a view that an instance was lent, or on which one was shown
abbrev pub StandsHeld : List (Option (Option View)) → List (ℕ × Shown) → ℕ → List Cell → Type 0
StandsHeld lent shown n cells = (v : View) × ((IsLent lent v ⊎ IsShownOn shown v) × StandsIn (levels v) n cells)

-- so it is on a page
abbrev pub IsHeld : Page → ℕ → List Cell → Type 0
IsHeld m n cells = StandsHeld (lent_views m.world.states) m.showing.shown n cells

-- ---- what they are worth

-- each cell is no later than the last snapshot of its instance saw it, and the snapshot saw all cells that there are
pub record ArePast (s : Snapshot) (cells : List Cell) : Type 0 where
  pub old : List (Option Cell)
  pub seen : s.seen ≡ Some old
  pub whole : length old ≡ s.count
  pub later : (c : ℕ) → IsLater (slice_get cells c) (slice_get (present old) c)

-- equal counts mean equal cells
abbrev pub SameByCount : (a b : List Cell) → Type 0
SameByCount a b = (c : ℕ) → count_of (slice_get a c) ≡ count_of (slice_get b c) → slice_get a c ≡ slice_get b c

-- levels are of instances that were made; where the instance is still live, its last snapshot saw no earlier cells; and two of one instance, live or
-- not, have the same cells where they have the same counts
pub record LevelsAgree (saw : List (Option Snapshot)) (Stands : ℕ → List Cell → Type 0) : Type 0 where
  pub made : (n : ℕ) (cells : List Cell) → Stands n cells → n < length saw
  pub past : (n : ℕ) (cells : List Cell) (s : Snapshot) → Stands n cells → at saw n ≡ Some s → ArePast s cells
  pub same : (n : ℕ) (a b : List Cell) → Stands n a → Stands n b → SameByCount a b

-- so it is of all levels that a page holds
abbrev pub HoldsPast : Page → Type 0
HoldsPast m = LevelsAgree (snapshots m.world.states) (IsHeld m)
