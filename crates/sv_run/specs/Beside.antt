-- What the file beside a program tells: the events of a run, or the steps of a test.
use Rattle.std.specs.Prelude.{ℕ, nat_lt, List, length, Option, Some, None, option_map, Result, Ok, Err, if◌then◌else◌}
use Rattle.sv_base.specs.declared.limits.TheConstants.{EVENTS_FILE_LIMIT}
use Rattle.sv_checks.specs.Deeds.{Deed, Deeds, deeds_from}
use Rattle.sv_events.specs.EventsFile.{Told, events_of}
use Rattle.sv_events.specs.declared.event.Event.{Event}
use Rattle.sv_events.specs.declared.refusal.EventsError.{EventsError}
use Rattle.sv_io.specs.Files.{Files, find_file}
use Rattle.sv_run.specs.Answer.{Answer, missing, events}
use Rattle.sv_run.specs.Kinds.{fault_in}
use Rattle.sv_run.specs.declared.kinds.EventsFault.TheVariants as faults
use Rattle.sv_steps.specs.StepsFile.{Told as StepsTold, steps_of}

-- bytes, where they aren't too many
abbrev pub fit_bytes : List ℕ → Result (List ℕ) Answer
fit_bytes bytes = if nat_lt EVENTS_FILE_LIMIT (length bytes) then Err (events faults.TooLong) else Ok bytes

-- the bytes of a file of this name, where there is one
abbrev pub bytes_or : (name : List ℕ) → Option (List ℕ) → Result (List ℕ) Answer
bytes_or name None = Err (missing name)
bytes_or name (Some bytes) = fit_bytes bytes

-- the bytes of the file, or what is answered where it is missing or too long
abbrev pub file_bytes : Files → (name : List ℕ) → Result (List ℕ) Answer
file_bytes files name = bytes_or name (find_file files name)

-- what is answered where it tells nothing; `NoMemory` has no answer
abbrev pub fault_told : {A : Type 0} → EventsError → Option (Result A Answer)
fault_told error = option_map (λ fault. Err (events fault)) (fault_in error)

-- what is told by events that are read
abbrev pub events_told : Told → Option (Result (List Event) Answer)
events_told (Ok list) = Some (Ok list)
events_told (Err error) = fault_told error

-- deeds, or what is answered where a selector is none
abbrev pub deeds_or : Deeds → Result (List Deed) Answer
deeds_or (Ok deeds) = Ok deeds
deeds_or (Err at) = Err (events (faults.BadSelector at))

-- what is told by steps that are read
abbrev pub deeds_told : StepsTold → Option (Result (List Deed) Answer)
deeds_told (Ok steps) = Some (deeds_or (deeds_from 0 steps))
deeds_told (Err error) = fault_told error

-- what bytes tell, where there are some
abbrev pub told_by : {A : Type 0} → (List ℕ → Option (Result A Answer)) → Result (List ℕ) Answer → Option (Result A Answer)
told_by tells (Ok bytes) = tells bytes
told_by tells (Err answer) = Some (Err answer)

abbrev pub bytes_events : List ℕ → Option (Result (List Event) Answer)
bytes_events bytes = events_told (events_of bytes)

abbrev pub bytes_deeds : List ℕ → Option (Result (List Deed) Answer)
bytes_deeds bytes = deeds_told (steps_of bytes)

-- the events of an events file, or what is answered where it tells none
abbrev pub events_in : Files → (name : List ℕ) → Option (Result (List Event) Answer)
events_in files name = told_by bytes_events (file_bytes files name)

-- the deeds of a file of steps, or what is answered where it tells none or a selector is none
abbrev pub deeds_in : Files → (name : List ℕ) → Option (Result (List Deed) Answer)
deeds_in files name = told_by bytes_deeds (file_bytes files name)
