-- What a run may answer: each answer has a status and an output.
use Rattle.std.specs.Prelude.{ℕ, List, ◌∷◌, [], ◌++◌, codes, decimal, if◌then◌else◌}
use Rattle.sv_checks.specs.Deeds.{Deed}
use Rattle.sv_code.specs.declared.program.Program.{Program}
use Rattle.sv_events.specs.declared.event.Event.{Event}
use Rattle.sv_play.specs.Run.{Printed, printed}
use Rattle.sv_play.specs.Summary.{summary}
use Rattle.sv_play.specs.declared.flags.Flags.{Flags}
use Rattle.sv_run.specs.Kinds.{events_word}
use Rattle.sv_run.specs.declared.kinds.EventsFault.{EventsFault}
use Rattle.sv_run.specs.declared.status.Status.{Status}
use Rattle.sv_run.specs.declared.status.Status.TheVariants as statuses
use Rattle.sv_ssr.specs.First.{first_page}
use Rattle.sv_test.specs.Tested.{tested}
use Rattle.sv_test.specs.declared.play.Ended.{Ended}
use Rattle.sv_test.specs.declared.play.Ended.TheVariants as ends

-- what a run answers
pub data Answer : Type 0 where
  usage : Answer
  missing : (name : List ℕ) → Answer
  source : (file word : List ℕ) → Answer
  source_at : (file : List ℕ) (line column : ℕ) (word : List ℕ) → Answer
  events : EventsFault → Answer
  turns : Program → Flags → List Event → Answer
  sums : Program → List Event → Answer
  accepted : Answer
  listed : (text : List ℕ) → Answer
  rendered : Program → Answer
  tests : Program → List Deed → Answer

-- the status of a run by what is printed of it
abbrev pub turned : Printed → Status
turned p = if p.refused then statuses.Turn else statuses.Ok

-- the status of a test by how it ended
abbrev pub ended : Ended → Status
ended ends.Passed = statuses.Ok
ended ends.Failed = statuses.Failed
ended ends.Refused = statuses.Turn

-- the status of an answer
abbrev pub status_of : Answer → Status
status_of usage = statuses.Usage
status_of (missing name) = statuses.Missing
status_of (source file word) = statuses.Source
status_of (source_at file line column word) = statuses.Source
status_of (events fault) = statuses.Events
status_of (turns program flags list) = turned (printed program flags list)
status_of (sums program list) = turned (summary program list)
status_of accepted = statuses.Ok
status_of (listed text) = statuses.Ok
status_of (rendered program) = turned (first_page program)
status_of (tests program deeds) = ended (tested program deeds).ended

-- the line for words that are no form
unfoldable pub usage_line : List ℕ
usage_line = codes "usage: svp run ROOT EVENTS [--log] [--watch] [--serials] [--tally] | check ROOT | print ROOT | gen N | render ROOT | test ROOT EVENTS\n"

-- the output of an answer
abbrev pub text_of : Answer → List ℕ
text_of usage = usage_line
text_of (missing name) = codes "missing: " ++ (name ++ 10 ∷ [])
text_of (source file word) = codes "source: " ++ (file ++ (codes ": " ++ (word ++ 10 ∷ [])))
text_of (source_at file line column word) =
    codes "source: " ++ (file ++ (codes ":" ++ (decimal line ++ (codes ":" ++ (decimal column ++ (codes ": " ++ (word ++ 10 ∷ [])))))))
text_of (events fault) = codes "events: " ++ (events_word fault ++ 10 ∷ [])
text_of (turns program flags list) = (printed program flags list).text
text_of (sums program list) = (summary program list).text
text_of accepted = codes "accepted\n"
text_of (listed text) = text
text_of (rendered program) = (first_page program).text
text_of (tests program deeds) = (tested program deeds).text
