-- The answer that a job gives.
use Rattle.std.specs.Prelude.{ℕ, List, Result, Ok, Err, string_bytes, ⊤}
use Rattle.sv_checks.specs.Deeds.{deeds_from}
use Rattle.sv_code.specs.declared.program.Program.{Program}
use Rattle.sv_run.specs.Answer.{Answer, usage, missing, source, source_at, events, turns, sums, accepted, listed, rendered, tests}
use Rattle.sv_run.specs.Beside.{deeds_or}
use Rattle.sv_run.specs.declared.beside.Found.{Found}
use Rattle.sv_run.specs.declared.beside.Found.TheVariants as found
use Rattle.sv_run.specs.declared.job.Job.{Job}
use Rattle.sv_run.specs.declared.job.Job.TheVariants as jobs
use Rattle.sv_run.specs.declared.job.Refusal.{Refusal}
use Rattle.sv_run.specs.declared.job.Refusal.TheVariants as refusals
use Rattle.sv_within.specs.Runnable.{IsRunnable}
use Rattle.sv_steps.specs.declared.step.Step.{Step}

abbrev pub refusal_of : Refusal → Answer
refusal_of refusals.Usage = usage
refusal_of (refusals.Missing name) = missing (string_bytes name)
refusal_of (refusals.Source file word) = source (string_bytes file) word.now
refusal_of (refusals.SourceAt file line column word) = source_at (string_bytes file) line column word.now
refusal_of (refusals.Events fault) = events fault

-- an answer by what is told, or why nothing is
abbrev pub answer_by : {A : Type 0} → (A → Answer) → Result A Answer → Answer
answer_by answers (Ok all) = answers all
answer_by answers (Err answer) = answer

-- what becomes of steps, or which of them has no selector
abbrev pub test_answer : Program → List Step → Answer
test_answer p steps = answer_by (tests p) (deeds_or (deeds_from 0 steps))

abbrev pub answer_of : Job → Answer
answer_of (jobs.Refuse refusal) = refusal_of refusal
answer_of (jobs.Play program list flags) = turns program flags list.items
answer_of (jobs.Sum program list) = sums program list.items
answer_of jobs.Accept = accepted
answer_of (jobs.List text) = listed text.items
answer_of (jobs.Render program) = rendered program
answer_of (jobs.Test program steps) = test_answer program steps.items

-- what came of the file beside a program
abbrev pub bytes_found : Found → Result (List ℕ) Answer
bytes_found (found.Bytes bytes) = Ok bytes.items
bytes_found (found.Refused refusal) = Err (refusal_of refusal)

-- what is played is what `compile` promises
abbrev pub IsPlayable : Job → Type 0
IsPlayable (jobs.Refuse refusal) = ⊤
IsPlayable jobs.Accept = ⊤
IsPlayable (jobs.List text) = ⊤
IsPlayable (jobs.Render program) = IsRunnable program
IsPlayable (jobs.Play program list flags) = IsRunnable program
IsPlayable (jobs.Sum program list) = IsRunnable program
IsPlayable (jobs.Test program steps) = IsRunnable program
