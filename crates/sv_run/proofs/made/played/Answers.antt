use Rattle.std.proofs.Common.{ap}
use Rattle.std.specs.Prelude.{Ok, Err}
use Rattle.sv_events.specs.EventsFile.{events_of}
use Rattle.sv_run.specs.Answer.{events}
use Rattle.sv_run.specs.Beside.{events_told}
use Rattle.sv_run.specs.Causes.{of_events, untold}
use Rattle.sv_run.proofs.Deciding.{events-refused, under-told}
use Rattle.sv_run.proofs.made.played.Goals as goal

pub returns-in_ok-program-in-Ok-clause-answer : goal.returns-in_ok-program-in-Ok-clause-answer
returns-in_ok-program-in-Ok-clause-answer c =
    under-told (of_events c.args.flags) c.args.checked.now.bundle.now c.in_ok-program-in-Ok.program _ (Ok c.in-Ok.events.items) (ap events_told c.in-Ok.ensures) c.in_ok-program-in-Ok.ensures.compiles

pub returns-in_ok-events_fault-in-Err-clause-answer : goal.returns-in_ok-events_fault-in-Err-clause-answer
returns-in_ok-events_fault-in-Err-clause-answer c =
    untold (events c.in_ok-events_fault-in-Err.field-0) (events-refused c.in-Err.error c.in_ok-events_fault-in-Err.field-0 (events_of c.args.bytes.now) c.in_ok-events_fault-in-Err.ensures c.in-Err.ensures)
