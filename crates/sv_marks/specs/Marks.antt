-- Pages on which no mark stands at two nodes.
use Rattle.std.specs.Prelude.{◌≢◌, ◌≤◌, ℕ, Bool}
use Rattle.sv_code.specs.declared.program.Program.{Program}
use Rattle.sv_document.specs.Marks.{marks}
use Rattle.sv_flush.specs.Outcome.{Outcome, Done, Halted}
use Rattle.sv_flush.specs.declared.page.Page.{Page}
use Rattle.sv_fresh.specs.Fresh.{drawn}
use Rattle.sv_places.specs.Numbers.{count}

-- no mark but 0 stands at two nodes of the page that is recorded
abbrev pub AreMarksApart : Program → Page → Type 0
AreMarksApart p m = (mark : ℕ) → mark ≢ 0 → count mark (marks (drawn p m.world m.showing)) ≤ 1

-- so it is where a turn isn't refused
abbrev pub LeavesMarksApart : Program → Outcome Bool → Type 0
LeavesMarksApart p (Done target m) = AreMarksApart p m
LeavesMarksApart p (Halted r m) = Unit {0}
