-- What is so of a page behind each turn.
use Rattle.std.specs.Prelude.{Bool}
use Rattle.sv_code.specs.declared.program.Program.{Program}
use Rattle.sv_flush.specs.Lent.{HoldsPast}
use Rattle.sv_flush.specs.Outcome.{Outcome, Done, Halted}
use Rattle.sv_flush.specs.Records.{RecordsSeen, ShowsPresent}
use Rattle.sv_flush.specs.Settled.{IsSettled}
use Rattle.sv_flush.specs.declared.page.Page.{Page}
use Rattle.sv_frame.specs.Computed.{AreComputed}

-- nothing waits, what is recorded is what snapshots saw, each live instance that is shown is shown on its present cells, what views hold of
-- instances' cells is no later than what their last snapshots saw, and derived stores are what their functions gave, with none pending
pub record IsCurrent (p : Program) (m : Page) : Type 0 where
  pub settled : IsSettled m
  pub records : RecordsSeen m
  pub present : ShowsPresent m
  pub past : HoldsPast m
  pub computed : AreComputed p m.world.states

-- so it is where a turn isn't refused
abbrev pub LeavesCurrent : Program → Outcome Bool → Type 0
LeavesCurrent p (Done target m) = IsCurrent p m
LeavesCurrent p (Halted r m) = Unit {0}
