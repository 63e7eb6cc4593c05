-- Facts of the states and of what is shown that stay true whatever a flush does, one thing at a time.
use Rattle.std.proofs.Common.{◌≡◌, ℕ, List, ◌++◌, length, Option, Some, None}
use Rattle.std.specs.BTreeMap.{is_at, insert_entry}
use Rattle.std.specs.Map.{remove_entry}
use Rattle.std.specs.Ordering.{nat_cmp}
use Rattle.sv_flush.specs.Creation.{cell_count}
use Rattle.sv_flush.specs.Lent.{StandsIn}
use Rattle.sv_code.specs.declared.program.Component.{Component}
use Rattle.sv_code.specs.declared.program.Program.{Program}
use Rattle.sv_frame.proofs.Outcomes.{Modules, ending, Left, MaySet, Stays}
use Rattle.sv_instance.specs.Bound.{Bound}
use Rattle.sv_instance.specs.Instance.{born}
use Rattle.sv_instance.specs.Standing.{Place}
use Rattle.sv_instance.specs.declared.instance.Instance.{Instance}
use Rattle.sv_meaning.specs.Components.{component_at, component_for}
use Rattle.sv_meaning.specs.Runs.{run_modules, run_top, settle}
use Rattle.sv_shapes.specs.declared.shape.Shape.{Shape}
use Rattle.sv_shapes.specs.declared.shown.Shown.{Shown}
use Rattle.sv_states.specs.Assignment.{handed_down, bound_up}
use Rattle.sv_states.specs.Change.{added, removed, viewed}
use Rattle.sv_states.specs.Refusal.{bind_refusal}
use Rattle.sv_states.specs.States.{States, live}
use Rattle.sv_states.specs.Waiting.{snapped}
use Rattle.sv_store.specs.Stores.{Subscriber}
use Rattle.sv_value.specs.Value.{Val}
use Rattle.sv_view.specs.Cell.{Cell}
use Rattle.sv_view.specs.Level.{Level, View}
use Rattle.sv_view.specs.View.{levels}
use Rattle.sv_world.specs.World.{present_view}
use Rattle.sv_world.specs.declared.world.World.{World}

-- what goes on: module files are to run; nothing; an instance was made, and its script is to run; an instance is readied; a snapshot of it was taken, on which it
-- isn't shown yet
pub data Phase : Type 0 where
  Loading : Phase
  Idle : Phase
  Fresh : ℕ → Phase
  Busy : ℕ → Phase
  Snapped : ℕ → Phase

-- scripts and callbacks may run
abbrev pub MayRun : Phase → Type 0
MayRun Loading = ⊥
MayRun Idle = Unit {0}
MayRun (Fresh n) = Unit {0}
MayRun (Busy n) = Unit {0}
MayRun (Snapped n) = ⊥

-- what is so of each phase in which they may
pub while_running : (C : Phase → Type 0) → C Idle → ((n : ℕ) → C (Fresh n)) → ((n : ℕ) → C (Busy n)) → (phase : Phase) → MayRun phase → C phase
while_running C idle fresh busy Loading may = absurd may
while_running C idle fresh busy Idle may = idle
while_running C idle fresh busy (Fresh n) may = fresh n
while_running C idle fresh busy (Busy n) may = busy n
while_running C idle fresh busy (Snapped n) may = absurd may

-- the cells of a view are those of some levels, which patches hand down
abbrev pub IsOf : List Level → View → Type 0
IsOf due v = (n : ℕ) (cells : List Cell) → StandsIn (levels v) n cells → StandsIn due n cells

-- an instance, if it is live, has a component that takes its owner's view in a cell with this number
abbrev pub TakesAt : Program → Option Instance → ℕ → Type 0
TakesAt p o cell = (c : Component) → component_for p o ≡ Some c → c.view ≡ Some cell

-- a fact of what goes on, while patches hand down some levels, of what is shown, of the constants of module files and of the states
abbrev pub About : Type 1
About = Phase → List Level → List (ℕ × Shown) → Modules → States → Type 0

-- it is so at every moment of a flush
pub record Lasting (p : Program) (P : About) : Type 0 where
  -- what scripts and binding callbacks do
  pub scripts : (phase : Phase) → MayRun phase → (due : List Level) (shown : List (ℕ × Shown)) → Stays p (ending (P phase due shown))
  pub loads : (due : List Level) (shown : List (ℕ × Shown)) (w : World) → P Loading due shown w.modules w.states → Left (ending (P Idle due shown)) (run_modules p w)
  pub opens : (n : ℕ) (due : List Level) (shown : List (ℕ × Shown)) (props : List (ℕ × Val)) (w : World) → P (Fresh n) due shown w.modules w.states → Left (ending (P (Busy n) due shown)) (run_top p n props w)
  pub binds : (due : List Level) (shown : List (ℕ × Shown)) (w : World) (n : ℕ) (b : Bound) → MaySet (bind_refusal w.states n b) → P Idle due shown w.modules w.states
      → Left (ending (P Idle due shown)) (settle p (record w { states = bound_up w.states n b }))
  -- what is handed down
  pub hands : (phase : Phase) → MayRun phase → (due : List Level) (shown : List (ℕ × Shown)) (ms : Modules) (s : States) (at : Subscriber) (v : Val) → P phase due shown ms s → P phase due shown ms (handed_down s at v)
  pub lends : (phase : Phase) → MayRun phase → (due : List Level) (shown : List (ℕ × Shown)) (ms : Modules) (s : States) (n c : ℕ) (view : View) → TakesAt p (live s n) c → IsOf due view → P phase due shown ms s
      → P phase due shown ms (viewed s n c view)
  pub spends : (more due : List Level) (shown : List (ℕ × Shown)) (ms : Modules) (s : States) → P Idle (more ++ due) shown ms s → P Idle due shown ms s
  -- instances that are made, and that go
  pub makes : (due : List Level) (shown : List (ℕ × Shown)) (ms : Modules) (s : States) (place : Place) (c : Component) → component_at p place.component ≡ Some c → P Idle due shown ms s
      → P (Fresh (length s.lives)) due shown ms (added s (born place (cell_count c) c.constants))
  pub drops : (due : List Level) (shown : List (ℕ × Shown)) (ms : Modules) (s : States) (n : ℕ) → P Idle due shown ms s → P Idle due (remove_entry (is_at (nat_cmp n)) shown) ms (removed s n)
  -- updates
  pub begins : (n : ℕ) (due : List Level) (shown : List (ℕ × Shown)) (ms : Modules) (s : States) → P Idle due shown ms s → P (Busy n) due shown ms s
  pub snaps : (n : ℕ) (due : List Level) (shown : List (ℕ × Shown)) (ms : Modules) (s : States) → P (Busy n) due shown ms s → P (Snapped n) due shown ms (snapped s n)
  pub passes : (n : ℕ) (due : List Level) (shown : List (ℕ × Shown)) (ms : Modules) (s : States) → live s n ≡ None → P (Snapped n) due shown ms s → P Idle due shown ms s
  pub shows : (n : ℕ) (due : List Level) (shown : List (ℕ × Shown)) (ms : Modules) (s : States) (i : Instance) (parts : List Shape) → live s n ≡ Some i → P (Snapped n) due shown ms s
      → P Idle (levels (present_view ms n i) ++ due) (insert_entry nat_cmp shown n (record { view = present_view ms n i; parts = parts })) ms s
