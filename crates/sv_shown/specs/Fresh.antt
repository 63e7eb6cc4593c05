-- The page that is recorded is the fresh page of the present states.
use Rattle.std.specs.Prelude.{◌≡◌, ℕ, Bool, [], Some}
use Rattle.sv_code.specs.declared.program.Program.{Program}
use Rattle.sv_family.specs.Family.{IsFamily}
use Rattle.sv_family.specs.Kin.{kins}
use Rattle.sv_flush.specs.Outcome.{Outcome, Done, Halted}
use Rattle.sv_flush.specs.Showing.{tags_of}
use Rattle.sv_flush.specs.declared.page.Page.{Page}
use Rattle.sv_fresh.specs.Fresh.{drawn, fresh}
use Rattle.sv_instance.specs.declared.instance.Instance.{Instance}
use Rattle.sv_meaning.specs.Components.{component_of, markup_of}
use Rattle.sv_right.specs.Right.{AreRight}
use Rattle.sv_shapes.specs.Showing.{shown_of}
use Rattle.sv_shapes.specs.declared.shown.Shown.{Shown}
use Rattle.sv_shown.specs.True.{AreTrue}
use Rattle.sv_states.specs.States.{live}
use Rattle.sv_world.specs.World.{present_view}

-- on a page between turns instances stand as they should, and what is shown of each is true
pub record IsTrue (p : Program) (m : Page) : Type 0 where
  pub family : IsFamily p m
  pub all : AreTrue p m.world.modules [] (kins m.world.states) m.showing m.counters.next

-- what is drawn of what patches recorded is what evaluations of the present states give
abbrev pub IsFresh : Program → Page → Type 0
IsFresh p m = drawn p m.world m.showing ≡ fresh p m.world m.showing

-- so it is where a turn isn't refused
abbrev pub LeavesFresh : Program → Outcome Bool → Type 0
LeavesFresh p (Done target m) = IsFresh p m
LeavesFresh p (Halted r m) = Unit {0}

-- what is held of an instance is what evaluations on its present view give
abbrev pub AreRightNow : Program → Page → Type 0
AreRightNow p m = (n : ℕ) (x : Shown) (i : Instance) → shown_of m.showing n ≡ Some x → live m.world.states n ≡ Some i →
    AreRight p (tags_of m.world (present_view m.world.modules n i)) (markup_of (component_of p m.world n)) (present_view m.world.modules n i) x.parts

-- so it is where a turn isn't refused
abbrev pub LeavesRight : Program → Outcome Bool → Type 0
LeavesRight p (Done target m) = AreRightNow p m
LeavesRight p (Halted r m) = Unit {0}
