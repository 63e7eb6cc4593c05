-- Marks stand apart behind each turn of a run.
use Rattle.std.proofs.Common.{Bool, List}
use Rattle.std.specs.List.{All}
use Rattle.sv_code.proofs.Compiled.{all_mono}
use Rattle.sv_code.specs.Compiled.{IsCompiled}
use Rattle.sv_code.specs.Content.{AreContentsSeen}
use Rattle.sv_code.specs.declared.program.Program.{Program}
use Rattle.sv_events.specs.declared.event.Event.{Event}
use Rattle.sv_family.proofs.Pages.{runs_keep}
use Rattle.sv_family.specs.Family.{IsFamily, LeavesFamily}
use Rattle.sv_family.specs.Kin.{kins}
use Rattle.sv_flush.specs.Outcome.{Outcome, Done, Halted}
use Rattle.sv_flush.specs.declared.page.Page.{Page}
use Rattle.sv_marks.proofs.Whole.{page_once}
use Rattle.sv_marks.specs.Marks.{AreMarksApart, LeavesMarksApart}
use Rattle.sv_page.specs.Run.{run}

pub marks_apart : (p : Program) (m : Page) → IsFamily p m → AreMarksApart p m
marks_apart p m h = λ mark some. page_once p m.world (kins m.world.states) m.showing m.counters.next h.0 mark some h.1

leaves_apart : (p : Program) (o : Outcome Bool) → LeavesFamily p o → LeavesMarksApart p o
leaves_apart p (Done target m) h = marks_apart p m h
leaves_apart p (Halted r m) h = tt

pub runs_apart : (p : Program) → IsCompiled p → AreContentsSeen p → (events : List Event) → All (LeavesMarksApart p) (run p events)
runs_apart p compiled seen events = all_mono (LeavesFamily p) (LeavesMarksApart p) (leaves_apart p) (run p events) (runs_keep p compiled seen events)
