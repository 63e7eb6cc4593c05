-- What becomes of steps, by what their selectors are.
use Rattle.std.proofs.Common.{◌≡◌, ℕ, List, ap}
use Rattle.std.specs.Prelude.{Ok, Err}
use Rattle.sv_checks.specs.Deeds.{Deed, deeds_from}
use Rattle.sv_code.specs.declared.program.Program.{Program}
use Rattle.sv_run.specs.Answer.{events, tests}
use Rattle.sv_run.specs.Beside.{deeds_or}
use Rattle.sv_run.specs.Job.{answer_by, test_answer}
use Rattle.sv_run.specs.declared.kinds.EventsFault.TheVariants.{BadSelector}
use Rattle.sv_steps.specs.declared.step.Step.{Step}

pub tests-deeds : (p : Program) (steps : List Step) (deeds : List Deed) → deeds_from 0 steps ≡ Ok deeds → test_answer p steps ≡ tests p deeds
tests-deeds p steps deeds is = ap (λ told. answer_by (tests p) (deeds_or told)) is

pub tests-none : (p : Program) (steps : List Step) (at : ℕ) → deeds_from 0 steps ≡ Err at → test_answer p steps ≡ events (BadSelector at)
tests-none p steps at is = ap (λ told. answer_by (tests p) (deeds_or told)) is
