-- What has been learned of the files, and what it calls for.
use Rattle.std.proofs.Common.{◌≡◌, ◌<◌, ◌≤◌, ℕ, List, [], ◌∷◌, length, Option, refl, sym, ap, subst, ◌∙◌, arith}
use Rattle.std.specs.Prelude.{Some, None, Result, Ok, Err, Vec, IfSome, nat_lt, option_map, slice_get, if◌then◌else◌}
use Rattle.std.specs.declared.alloc.Global.{Global}
use Rattle.std.proofs.lemmas.Bool.{le-ltb, lt-ltb}
use Rattle.std.proofs.lemmas.Option.{none-some, slice_get_within, IfSome_then}
use Rattle.sv_ast.specs.declared.files.Bundle.{Bundle}
use Rattle.sv_ast.specs.declared.files.SourceFile.{SourceFile}
use Rattle.sv_base.specs.declared.limits.TheConstants.{EVENTS_FILE_LIMIT}
use Rattle.sv_check.specs.Checked.{IsFirstMistake, IsClean}
use Rattle.sv_code.specs.declared.program.Program.{Program}
use Rattle.sv_events.specs.EventsFile.{Told, Answers as EventsAnswer}
use Rattle.sv_events.specs.declared.event.Event.{Event}
use Rattle.sv_events.specs.declared.refusal.EventsError.{EventsError}
use Rattle.sv_events.specs.declared.refusal.EventsError.TheVariants as error
use Rattle.sv_io.specs.Files.{Files, find_file}
use Rattle.sv_io.specs.Shelf.{IsGot, IsWithin}
use Rattle.sv_io.specs.declared.shelf.Got.{Got}
use Rattle.sv_io.specs.declared.shelf.Got.TheVariants.{Bytes, Missing, TooLong}
use Rattle.sv_load.proofs.Told.{IfSome-always, IfSome-both}
use Rattle.sv_load.specs.Loads.{Loads, Reads, nothing as no_files}
use Rattle.sv_load.specs.declared.refusals.LoadError.{LoadError}
use Rattle.sv_load.specs.declared.refusals.LoadError.TheVariants as load
use Rattle.sv_resolve.specs.declared.refusals.CheckRefusal.{CheckRefusal}
use Rattle.sv_run.specs.Answer.{Answer, usage, missing, events}
use Rattle.sv_run.specs.Beside.{fit_bytes, bytes_or, file_bytes, fault_told, events_told, deeds_told, told_by}
use Rattle.sv_run.specs.Causes.{load_answer, mistake_answer, IsMistaken, IsUnfit, not_loaded, mistaken, Accepts, IsOver, unfit, fit, Compiles, IsUnder, untold, under, IsDone, Calls, IsAnswer, no_form, called}
use Rattle.sv_run.specs.Job.{answer_by}
use Rattle.sv_run.specs.Kinds.{fault_in}
use Rattle.sv_run.specs.declared.kinds.EventsFault.{EventsFault}
use Rattle.sv_run.specs.declared.kinds.EventsFault.TheVariants as faults
use Rattle.sv_run.specs.declared.program.Task.{Task}
use Rattle.sv_steps.specs.StepsFile.{Told as StepsTold, Answers as StepsAnswer}
use Rattle.sv_words.specs.Words.{Form, IsForm, IsNoForm}

-- ---- a root component

-- what isn't loaded for a cause of its own
reads_of : (files : Files) (root : List ℕ) (error : LoadError) (answer : Answer) → load_answer error ≡ Some answer → Loads files root (Err error)
    → Reads files root no_files (Err error)
reads_of files root (load.Missing name) answer is loads = loads
reads_of files root (load.TooLong name) answer is loads = loads
reads_of files root (load.TooMany name) answer is loads = loads
reads_of files root (load.Refused name kind line column) answer is loads = loads
reads_of files root load.Failed answer is loads = absurd (none-some answer is)
reads_of files root load.NoMemory answer is loads = absurd (none-some answer is)

module _ (IsFor : Files → Bundle → Answer → Type 0) (o : Option Files) (root : List ℕ) (answer : Answer) where
  pub over-not_loaded : (error : LoadError) → load_answer error ≡ Some answer → IfSome o (λ files. Loads files root (Err error)) → IfSome o (λ files. IsOver files root (IsFor files) answer)
  over-not_loaded error is loads = IfSome_then o loads (λ files loaded. unfit answer (not_loaded error answer (reads_of files root error answer is loaded) is))

  pub over-mistaken : (bundle : Bundle) → IsMistaken bundle answer → IfSome o (λ files. Loads files root (Ok bundle)) → IfSome o (λ files. IsOver files root (IsFor files) answer)
  over-mistaken bundle is loads = IfSome_then o loads (λ files loaded. unfit answer (mistaken bundle answer loaded is))

  pub over-fit : (after : Option Files) (bundle other : Bundle) → after ≡ o → IsClean bundle → other ≡ bundle → IfSome o (λ files. Loads files root (Ok bundle))
      → IfSome after (λ files. IsFor files other answer) → IfSome o (λ files. IsOver files root (IsFor files) answer)
  over-fit after bundle other still is same loads given =
      IfSome-both o loads (subst (λ z. IfSome z (λ files. IsFor files other answer)) still given)
      (λ files loaded done. fit bundle answer (record { loaded = loaded; is_clean = is }) (subst (λ b. IsFor files b answer) same done))

-- what is done of a task is done of it by another name
module _ (o : Option Files) (task other : Task) (bundle : Bundle) (answer : Answer) (same : task ≡ other) where
  pub done-told : IfSome o (λ files. IsDone files other bundle answer) → IfSome o (λ files. IsDone files task bundle answer)
  done-told is = subst (λ t. IfSome o (λ files. IsDone files t bundle answer)) (sym same) is

  pub done-always : ((files : Files) → IsDone files other bundle answer) → IfSome o (λ files. IsDone files task bundle answer)
  done-always is = done-told (IfSome-always o is)

-- ---- the file beside it

fits : (bytes : List ℕ) → length bytes ≤ EVENTS_FILE_LIMIT → fit_bytes bytes ≡ Ok bytes
fits bytes short = ap (λ b. if b then Err (events faults.TooLong) else Ok bytes) (le-ltb EVENTS_FILE_LIMIT (length bytes) short)

too_long : (bytes : List ℕ) → EVENTS_FILE_LIMIT < length bytes → fit_bytes bytes ≡ Err (events faults.TooLong)
too_long bytes long = ap (λ b. if b then Err (events faults.TooLong) else Ok bytes) (lt-ltb EVENTS_FILE_LIMIT (length bytes) long)

module _ (o : Option Files) (file : List ℕ) (got : Got) (found : IfSome o (λ files. IsGot files file EVENTS_FILE_LIMIT got)) where
  pub bytes-found : (bytes : Vec ℕ Global) → got ≡ Bytes bytes → IsWithin EVENTS_FILE_LIMIT got → IfSome o (λ files. file_bytes files file ≡ Ok bytes.items)
  bytes-found bytes is within = IfSome_then o found (λ files there.
      ap (bytes_or file) (subst (IsGot files file EVENTS_FILE_LIMIT) is there) ∙ fits bytes.items (subst (IsWithin EVENTS_FILE_LIMIT) is within))

  pub bytes-missing : (name : List ℕ) → got ≡ Missing → name ≡ file → IfSome o (λ files. file_bytes files file ≡ Err (missing name))
  bytes-missing name is same = IfSome_then o found (λ files there. ap (bytes_or file) (subst (IsGot files file EVENTS_FILE_LIMIT) is there) ∙ ap (λ n. Err (missing n)) (sym same))

  pub bytes-long : got ≡ TooLong → IfSome o (λ files. file_bytes files file ≡ Err (events faults.TooLong))
  bytes-long is = IfSome_then o found (λ files there.
      let long : IsGot files file EVENTS_FILE_LIMIT TooLong = subst (IsGot files file EVENTS_FILE_LIMIT) is there in
      ap (bytes_or file) long.1 ∙ too_long long.0 long.2)

-- why it tells nothing
pub events-refused : (e : EventsError) (fault : EventsFault) (told : Told) → fault_in e ≡ Some fault → EventsAnswer (Err e) told → events_told told ≡ Some (Err (events fault))
events-refused error.NotJson fault told is same = ap events_told same ∙ ap (λ o. option_map (λ f. Err (events f)) o) is
events-refused error.BadForm fault told is same = ap events_told same ∙ ap (λ o. option_map (λ f. Err (events f)) o) is
events-refused error.TooMany fault told is same = ap events_told same ∙ ap (λ o. option_map (λ f. Err (events f)) o) is
events-refused (error.BadShape at) fault told is same = ap events_told same ∙ ap (λ o. option_map (λ f. Err (events f)) o) is
events-refused error.NoMemory fault told is same = absurd (none-some fault is)

pub steps-refused : (e : EventsError) (fault : EventsFault) (told : StepsTold) → fault_in e ≡ Some fault → StepsAnswer (Err e) told → deeds_told told ≡ Some (Err (events fault))
steps-refused error.NotJson fault told is same = ap deeds_told same ∙ ap (λ o. option_map (λ f. Err (events f)) o) is
steps-refused error.BadForm fault told is same = ap deeds_told same ∙ ap (λ o. option_map (λ f. Err (events f)) o) is
steps-refused error.TooMany fault told is same = ap deeds_told same ∙ ap (λ o. option_map (λ f. Err (events f)) o) is
steps-refused (error.BadShape at) fault told is same = ap deeds_told same ∙ ap (λ o. option_map (λ f. Err (events f)) o) is
steps-refused error.NoMemory fault told is same = absurd (none-some fault is)

module _ {A : Type 0} (answers : A → Program → Answer) (bundle : Bundle) where
  -- what is answered once its bytes were read
  pub under-told : (made : Program) (told : Option (Result A Answer)) (r : Result A Answer) → told ≡ Some r → Compiles bundle made → IsUnder A told answers bundle (answer_by (λ all. answers all made) r)
  under-told made told (Ok all) is compiles = under all (answers all made) is (record { compiled = made; compiles = compiles; is = refl })
  under-told made told (Err answer) is compiles = untold answer is

  module _ (tells : List ℕ → Option (Result A Answer)) (o : Option Files) (file : List ℕ) (answer : Answer) where
    pub under-bytes : (bytes text : List ℕ) → text ≡ bytes → IfSome o (λ files. file_bytes files file ≡ Ok bytes) → IsUnder A (tells text) answers bundle answer
        → IfSome o (λ files. IsUnder A (told_by tells (file_bytes files file)) answers bundle answer)
    under-bytes bytes text same found is =
        IfSome_then o found (λ files there. subst (λ t. IsUnder A t answers bundle answer) (ap tells same ∙ sym (ap (told_by tells) there)) is)

    pub under-refused : IfSome o (λ files. file_bytes files file ≡ Err answer) → IfSome o (λ files. IsUnder A (told_by tells (file_bytes files file)) answers bundle answer)
    under-refused found = IfSome_then o found (λ files there. untold answer (ap (told_by tells) there))

-- ---- mistakes

-- the file of a mistake is there
pub file_of_mistake : (bundle : Bundle) (m : CheckRefusal) → IsFirstMistake bundle m → (file : SourceFile) × (slice_get bundle.files m.at.file ≡ Some file)
file_of_mistake bundle m is =
    let at = is.is_first.are_mistakes in
    (at.source, ap (λ x. slice_get bundle.files x.at.file) is.is_first.told ∙ at.there)

pub file_within : (bundle : Bundle) (m : CheckRefusal) → IsFirstMistake bundle m → m.at.file < length bundle.files
file_within bundle m is =
    let there = file_of_mistake bundle m is in slice_get_within bundle.files m.at.file there.0 there.1

pub mistaken_is : (bundle : Bundle) (m : CheckRefusal) (answer : Answer) → IsFirstMistake bundle m
    → ((file : SourceFile) → slice_get bundle.files m.at.file ≡ Some file → answer ≡ mistake_answer file m) → IsMistaken bundle answer
mistaken_is bundle m answer is told =
    let there = file_of_mistake bundle m is in
    record { mistake = m; first = is; file = there.0; there = there.1; told = told there.0 there.1 }

-- ---- all words

module _ (o : Option Files) (words : List (List ℕ)) where
  pub calls-usage : IsNoForm words → IfSome o (λ files. IsAnswer words files usage)
  calls-usage none = IfSome-always o (λ files. no_form none)

  module _ (form : Form) (answer : Answer) (is : IsForm words form) where
    pub calls-form : IfSome o (λ files. Calls files form answer) → IfSome o (λ files. IsAnswer words files answer)
    calls-form calls = IfSome_then o calls (λ files for_it. called form answer is for_it)

    -- what is called for whatever the files are
    pub calls-always : ((files : Files) → Calls files form answer) → IfSome o (λ files. IsAnswer words files answer)
    calls-always calls = IfSome-always o (λ files. called form answer is (calls files))
