-- What a run answers and writes.
use Rattle.std.specs.Prelude.{◌≡◌, ◌⊎◌, ℕ, List, Option}
use Rattle.sv_io.specs.Files.{Files}
use Rattle.sv_io.specs.Sink.{with_bytes, AppendsFront}
use Rattle.sv_run.specs.Answer.{Answer, status_of, text_of}
use Rattle.sv_run.specs.Causes.{IsAnswer}
use Rattle.sv_run.specs.declared.status.Status.{Status}
use Rattle.sv_run.specs.declared.status.Status.TheVariants as statuses

-- this answer was given: its status, and its whole output
pub record Gives (answer : Answer) (old new : Option (List ℕ)) (status : Status) : Type 0 where
  pub status_is : status ≡ status_of answer
  pub written : new ≡ with_bytes old (text_of answer)

-- an answer that is called for was given
pub record Answers (words : List (List ℕ)) (files : Files) (old new : Option (List ℕ)) (status : Status) : Type 0 where
  pub answer : Answer
  pub called_for : IsAnswer words files answer
  pub given : Gives answer old new status

-- the output of an answer that is called for broke off: a prefix of it was written
pub record BreaksOff (words : List (List ℕ)) (files : Files) (old new : Option (List ℕ)) : Type 0 where
  pub answer : Answer
  pub called_for : IsAnswer words files answer
  pub front : AppendsFront old new (text_of answer)

-- what a run with this status wrote: nothing after a failed read, a prefix after a failed write, nothing or a prefix where
-- memory ran out, and else the whole output of an answer with this status that is called for
abbrev pub RunAnswers : List (List ℕ) → Files → Option (List ℕ) → Option (List ℕ) → Status → Type 0
RunAnswers words files old new statuses.ReadFault = new ≡ old
RunAnswers words files old new statuses.WriteFault = BreaksOff words files old new
RunAnswers words files old new statuses.NoMemory = (new ≡ old) ⊎ BreaksOff words files old new
RunAnswers words files old new statuses.Turn = Answers words files old new statuses.Turn
RunAnswers words files old new statuses.Ok = Answers words files old new statuses.Ok
RunAnswers words files old new statuses.Usage = Answers words files old new statuses.Usage
RunAnswers words files old new statuses.Source = Answers words files old new statuses.Source
RunAnswers words files old new statuses.Events = Answers words files old new statuses.Events
RunAnswers words files old new statuses.Missing = Answers words files old new statuses.Missing
RunAnswers words files old new statuses.Failed = Answers words files old new statuses.Failed

-- each answer that is called for is given, unless memory runs out
abbrev pub RunCompletes : List (List ℕ) → Files → Option (List ℕ) → Option (List ℕ) → Status → Type 0
RunCompletes words files old new status =
    (answer : Answer) → IsAnswer words files answer → Gives answer old new status ⊎ (status ≡ statuses.NoMemory)

-- no words and files call for two answers
abbrev pub IsOneAnswer : Type 0
IsOneAnswer = (words : List (List ℕ)) (files : Files) (a b : Answer) → IsAnswer words files a → IsAnswer words files b → a ≡ b
