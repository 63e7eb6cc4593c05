-- What is recorded of what is shown, against what scripts left.
use Rattle.std.specs.BTreeMap.{is_at}
use Rattle.std.specs.List.{All}
use Rattle.std.specs.Map.{keys_of, lookup}
use Rattle.std.specs.Ordering.{nat_cmp}
use Rattle.std.specs.Prelude.{◌≡◌, ◌<◌, ℕ, true, List, length, Option, Some, is_some, option_map}
use Rattle.sv_flush.specs.declared.page.Page.{Page}
use Rattle.sv_frame.specs.Snapshots.{Snapshot, snapshots}
use Rattle.sv_instance.specs.Cells.{present}
use Rattle.sv_instance.specs.declared.instance.Instance.{Instance}
use Rattle.sv_numbered.specs.Numbered.{at}
use Rattle.sv_shapes.specs.Showing.{shown_of}
use Rattle.sv_shapes.specs.declared.shown.Shown.{Shown}
use Rattle.sv_states.specs.States.{live}

-- the cells on which an instance was shown last are those that its last snapshot saw, and as many as it has
pub record IsRecorded (s : Snapshot) (x : Shown) : Type 0 where
  pub seen : option_map present s.seen ≡ Some x.view.own.cells
  pub whole : length x.view.own.cells ≡ s.count

-- only instances that were made are shown, each live one, but for some, is shown, and on what its last snapshot saw
pub record Records (But : ℕ → Type 0) (saw : List (Option Snapshot)) (shown : List (ℕ × Shown)) : Type 0 where
  pub made : All (λ n. n < length saw) (keys_of shown)
  pub whole : (n : ℕ) (s : Snapshot) → (But n → ⊥) → at saw n ≡ Some s → is_some (lookup (is_at (nat_cmp n)) shown) ≡ true
  pub seen : (n : ℕ) (s : Snapshot) (x : Shown) → at saw n ≡ Some s → lookup (is_at (nat_cmp n)) shown ≡ Some x → IsRecorded s x

-- no instance is left out
abbrev pub nobody : ℕ → Type 0
nobody n = ⊥

-- so it is on a page, for all instances
abbrev pub RecordsSeen : Page → Type 0
RecordsSeen m = Records nobody (snapshots m.world.states) m.showing.shown

-- an instance was shown, on its present cells, and they are those that its last snapshot saw
pub record IsPresent (m : Page) (n : ℕ) (i : Instance) : Type 0 where
  pub last : Shown
  pub shown : shown_of m.showing n ≡ Some last
  pub cells : last.view.own.cells ≡ present i.cells.now
  pub seen : i.cells.seen ≡ Some i.cells.now

-- so it is of each live instance
abbrev pub ShowsPresent : Page → Type 0
ShowsPresent m = (n : ℕ) (i : Instance) → live m.world.states n ≡ Some i → IsPresent m n i
