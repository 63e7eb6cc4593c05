-- How a run ends, by the answer that its words and files call for.
use Rattle.std.proofs.Common.{◌≡◌, ◌≢◌, ℕ, Bool, true, false, List, Option, refl, sym, ◌∙◌, ap, subst, inl}
use Rattle.std.specs.Prelude.{if◌then◌else◌}
use Rattle.sv_io.specs.Files.{Files}
use Rattle.sv_io.specs.Sink.{with_bytes, AppendsFront}
use Rattle.sv_play.specs.Run.{printed}
use Rattle.sv_play.specs.Summary.{summary}
use Rattle.sv_run.specs.Answer.{Answer, usage, missing, source, source_at, events, turns, sums, accepted, listed, rendered, tests, ended, status_of, text_of}
use Rattle.sv_run.specs.Causes.{IsAnswer}
use Rattle.sv_run.specs.Run.{Answers, BreaksOff, RunAnswers, RunCompletes, IsOneAnswer}
use Rattle.sv_ssr.specs.First.{first_page}
use Rattle.sv_run.specs.declared.status.Status.{Status}
use Rattle.sv_run.specs.declared.status.Status.TheVariants as statuses
use Rattle.sv_test.specs.Tested.{tested}
use Rattle.sv_test.specs.declared.play.Ended.{Ended}
use Rattle.sv_test.specs.declared.play.Ended.TheVariants as ends

answer_given : (words : List (List ℕ)) (files : Files) (old new : Option (List ℕ)) (answer : Answer) → IsAnswer words files answer
    → new ≡ with_bytes old (text_of answer) → Answers words files old new (status_of answer)
answer_given words files old new answer is written = record { answer = answer; called_for = is; given = record { status_is = refl; written = written } }

-- turns end well, or at one that is refused
turns_answered : (words : List (List ℕ)) (files : Files) (old new : Option (List ℕ)) (refused : Bool) → Answers words files old new (if refused then statuses.Turn else statuses.Ok)
    → RunAnswers words files old new (if refused then statuses.Turn else statuses.Ok)
turns_answered words files old new true given = given
turns_answered words files old new false given = given

-- a test ends well, or with an expectation that didn't hold, or at a turn that is refused
test_answered : (words : List (List ℕ)) (files : Files) (old new : Option (List ℕ)) (e : Ended) → Answers words files old new (ended e) → RunAnswers words files old new (ended e)
test_answered words files old new ends.Passed given = given
test_answered words files old new ends.Failed given = given
test_answered words files old new ends.Refused given = given

answered : (words : List (List ℕ)) (files : Files) (old new : Option (List ℕ)) (answer : Answer) → IsAnswer words files answer
    → new ≡ with_bytes old (text_of answer) → RunAnswers words files old new (status_of answer)
answered words files old new usage is written = answer_given words files old new usage is written
answered words files old new (missing name) is written = answer_given words files old new (missing name) is written
answered words files old new (source file word) is written = answer_given words files old new (source file word) is written
answered words files old new (source_at file line column word) is written = answer_given words files old new (source_at file line column word) is written
answered words files old new (events fault) is written = answer_given words files old new (events fault) is written
answered words files old new (turns program flags list) is written = turns_answered words files old new (printed program flags list).refused (answer_given words files old new (turns program flags list) is written)
answered words files old new (sums program list) is written = turns_answered words files old new (summary program list).refused (answer_given words files old new (sums program list) is written)
answered words files old new accepted is written = answer_given words files old new accepted is written
answered words files old new (listed text) is written = answer_given words files old new (listed text) is written
answered words files old new (rendered program) is written = turns_answered words files old new (first_page program).refused (answer_given words files old new (rendered program) is written)
answered words files old new (tests program deeds) is written = test_answered words files old new (tested program deeds).ended (answer_given words files old new (tests program deeds) is written)

-- no answer is given where a read or a write failed
ends_otherwise : (other : Status) → (statuses.Turn ≢ other) → (statuses.Ok ≢ other) → (refused : Bool) → (if refused then statuses.Turn else statuses.Ok) ≢ other
ends_otherwise other turn ok true = turn
ends_otherwise other turn ok false = ok

test_ends_otherwise : (other : Status) → (statuses.Ok ≢ other) → (statuses.Failed ≢ other) → (statuses.Turn ≢ other) → (e : Ended) → ended e ≢ other
test_ends_otherwise other ok failed turn ends.Passed = ok
test_ends_otherwise other ok failed turn ends.Failed = failed
test_ends_otherwise other ok failed turn ends.Refused = turn

pub no_read_fault : (answer : Answer) → status_of answer ≢ statuses.ReadFault
no_read_fault usage = λ e. absurd (cc)
no_read_fault (missing name) = λ e. absurd (cc)
no_read_fault (source file word) = λ e. absurd (cc)
no_read_fault (source_at file line column word) = λ e. absurd (cc)
no_read_fault (events fault) = λ e. absurd (cc)
no_read_fault (turns program flags list) = ends_otherwise statuses.ReadFault (λ e. absurd (cc)) (λ e. absurd (cc)) (printed program flags list).refused
no_read_fault (sums program list) = ends_otherwise statuses.ReadFault (λ e. absurd (cc)) (λ e. absurd (cc)) (summary program list).refused
no_read_fault accepted = λ e. absurd (cc)
no_read_fault (listed text) = λ e. absurd (cc)
no_read_fault (rendered program) = ends_otherwise statuses.ReadFault (λ e. absurd (cc)) (λ e. absurd (cc)) (first_page program).refused
no_read_fault (tests program deeds) = test_ends_otherwise statuses.ReadFault (λ e. absurd (cc)) (λ e. absurd (cc)) (λ e. absurd (cc)) (tested program deeds).ended

pub no_write_fault : (answer : Answer) → status_of answer ≢ statuses.WriteFault
no_write_fault usage = λ e. absurd (cc)
no_write_fault (missing name) = λ e. absurd (cc)
no_write_fault (source file word) = λ e. absurd (cc)
no_write_fault (source_at file line column word) = λ e. absurd (cc)
no_write_fault (events fault) = λ e. absurd (cc)
no_write_fault (turns program flags list) = ends_otherwise statuses.WriteFault (λ e. absurd (cc)) (λ e. absurd (cc)) (printed program flags list).refused
no_write_fault (sums program list) = ends_otherwise statuses.WriteFault (λ e. absurd (cc)) (λ e. absurd (cc)) (summary program list).refused
no_write_fault accepted = λ e. absurd (cc)
no_write_fault (listed text) = λ e. absurd (cc)
no_write_fault (rendered program) = ends_otherwise statuses.WriteFault (λ e. absurd (cc)) (λ e. absurd (cc)) (first_page program).refused
no_write_fault (tests program deeds) = test_ends_otherwise statuses.WriteFault (λ e. absurd (cc)) (λ e. absurd (cc)) (λ e. absurd (cc)) (tested program deeds).ended

-- the answer was given
pub run-answered : (words : List (List ℕ)) (files : Files) (old new : Option (List ℕ)) (status : Status) (answer : Answer) → IsAnswer words files answer
    → status ≡ status_of answer → new ≡ with_bytes old (text_of answer) → RunAnswers words files old new status
run-answered words files old new status answer is same written =
    let P : Status → Type 0 = RunAnswers words files old new in
    subst P (sym same) (answered words files old new answer is written)

-- the answer that was given is each one that is called for
pub run-given : IsOneAnswer → (words : List (List ℕ)) (files : Files) (old new : Option (List ℕ)) (status : Status) (given : Answer) → IsAnswer words files given
    → status ≡ status_of given → new ≡ with_bytes old (text_of given) → RunCompletes words files old new status
run-given law words files old new status given called_for status_is written = λ answer is.
    let same = law words files given answer called_for is in
    inl (record { status_is = status_is ∙ ap status_of same; written = written ∙ ap (λ a. with_bytes old (text_of a)) same })

-- the output of the answer broke off
pub run-broken : (words : List (List ℕ)) (files : Files) (old new : Option (List ℕ)) (answer : Answer) → IsAnswer words files answer
    → AppendsFront old new (text_of answer) → BreaksOff words files old new
run-broken words files old new answer is front = record { answer = answer; called_for = is; front = front }
