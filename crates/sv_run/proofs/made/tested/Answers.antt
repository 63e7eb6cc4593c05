use Rattle.std.proofs.Common.{ap}
use Rattle.sv_checks.specs.Deeds.{deeds_from}
use Rattle.sv_run.specs.Answer.{events}
use Rattle.sv_run.specs.Beside.{deeds_or, deeds_told}
use Rattle.sv_run.specs.Causes.{of_deeds, untold}
use Rattle.sv_run.proofs.Deciding.{steps-refused, under-told}
use Rattle.sv_run.proofs.made.tested.Goals as goal
use Rattle.sv_steps.specs.StepsFile.{steps_of}

pub returns-in_ok-program-in-Ok-clause-answer : goal.returns-in_ok-program-in-Ok-clause-answer
returns-in_ok-program-in-Ok-clause-answer c =
    under-told of_deeds c.args.checked.now.bundle.now c.in_ok-program-in-Ok.program _ (deeds_or (deeds_from 0 c.in-Ok.steps.items)) (ap deeds_told c.in-Ok.ensures) c.in_ok-program-in-Ok.ensures.compiles

pub returns-in_ok-events_fault-in-Err-clause-answer : goal.returns-in_ok-events_fault-in-Err-clause-answer
returns-in_ok-events_fault-in-Err-clause-answer c =
    untold (events c.in_ok-events_fault-in-Err.field-0) (steps-refused c.in-Err.error c.in_ok-events_fault-in-Err.field-0 (steps_of c.args.bytes.now) c.in_ok-events_fault-in-Err.ensures c.in-Err.ensures)
