-- What a run is to answer, by its words and the files that the shelf tells.
use Rattle.std.specs.Prelude.{◌≡◌, ℕ, List, [], Option, Some, None, Result, Ok, Err, codes, slice_get}
use Rattle.sv_ast.specs.declared.files.Bundle.{Bundle}
use Rattle.sv_ast.specs.declared.files.SourceFile.{SourceFile}
use Rattle.sv_ast.specs.declared.refusals.Kind.TheVariants as kind
use Rattle.sv_check.specs.declared.checked.CheckedComponent.{CheckedComponent}
use Rattle.sv_check.specs.Checked.{IsFirstMistake, IsClean, AreChecked}
use Rattle.sv_checks.specs.Deeds.{Deed}
use Rattle.sv_code.specs.declared.program.Program.{Program}
use Rattle.sv_compile.specs.Compile.{program}
use Rattle.sv_compile.specs.Modules.{AreModules}
use Rattle.sv_events.specs.declared.event.Event.{Event}
use Rattle.sv_io.specs.Files.{Files}
use Rattle.sv_lines.specs.Lines.{line_in, column_in}
use Rattle.sv_listing.specs.Listing.{listing}
use Rattle.sv_load.specs.Loads.{Reads, nothing as no_files}
use Rattle.sv_load.specs.declared.refusals.LoadError.{LoadError}
use Rattle.sv_load.specs.declared.refusals.LoadError.TheVariants as load
use Rattle.sv_play.specs.declared.flags.Flags.{Flags}
use Rattle.sv_resolve.specs.declared.refusals.CheckRefusal.{CheckRefusal}
use Rattle.sv_run.specs.Answer.{Answer, usage, missing, source, source_at, turns, sums, accepted, listed, rendered, tests}
use Rattle.sv_run.specs.Beside.{events_in, deeds_in}
use Rattle.sv_run.specs.Generated.{generated, root_name, clicks}
use Rattle.sv_run.specs.Kinds.{parse_word, check_word}
use Rattle.sv_run.specs.declared.program.Task.{Task}
use Rattle.sv_run.specs.declared.program.Task.TheVariants as tasks
use Rattle.sv_words.specs.Words.{Form, Runs, Checks, Prints, Renders, Gens, Tests, IsForm, IsNoForm}

-- ---- a root component with all that it imports

-- what is answered where a program isn't loaded; a failed read and `NoMemory` have no answer
abbrev pub load_answer : LoadError → Option Answer
load_answer (load.Missing name) = Some (missing name)
load_answer (load.TooLong name) = Some (source name (codes "TooLong"))
load_answer (load.TooMany name) = Some (source name (codes "TooManyFiles"))
load_answer (load.Refused name kind.NotUtf8 line column) = Some (source name (parse_word kind.NotUtf8))
load_answer (load.Refused name other line column) = Some (source_at name line column (parse_word other))
load_answer load.Failed = None
load_answer load.NoMemory = None

-- the place of a mistake is told by the lines of its file
abbrev pub mistake_answer : SourceFile → CheckRefusal → Answer
mistake_answer file m = source_at file.name (line_in file.lines m.at.from) (column_in file.lines m.at.from) (check_word m.kind)

-- this is answered for the first mistake of a program
pub record IsMistaken (bundle : Bundle) (answer : Answer) : Type 0 where
  pub mistake : CheckRefusal
  pub first : IsFirstMistake bundle mistake
  pub file : SourceFile
  pub there : slice_get bundle.files mistake.at.file ≡ Some file
  pub told : answer ≡ mistake_answer file mistake

-- what is answered where it is refused
pub data IsUnfit (files : Files) (root : List ℕ) : Answer → Type 0 where
  not_loaded : (error : LoadError) (answer : Answer) → Reads files root no_files (Err error) → load_answer error ≡ Some answer → IsUnfit files root answer
  mistaken : (bundle : Bundle) (answer : Answer) → Reads files root no_files (Ok bundle) → IsMistaken bundle answer → IsUnfit files root answer

-- it is a program without a mistake
pub record Accepts (files : Files) (root : List ℕ) (bundle : Bundle) : Type 0 where
  pub loaded : Reads files root no_files (Ok bundle)
  pub is_clean : IsClean bundle

-- What is answered over it: why it is refused, or else what is answered over its program.
pub data IsOver (files : Files) (root : List ℕ) (IsFor : Bundle → Answer → Type 0) : Answer → Type 0 where
  unfit : (answer : Answer) → IsUnfit files root answer → IsOver files root IsFor answer
  fit : (bundle : Bundle) (answer : Answer) → Accepts files root bundle → IsFor bundle answer → IsOver files root IsFor answer

-- ---- a program without a mistake

-- what it is compiled to, with its module files in the order in which they run
pub record Compiles (bundle : Bundle) (compiled : Program) : Type 0 where
  pub told : List CheckedComponent
  pub are_checked : AreChecked bundle told
  pub modules : List ℕ
  pub are_modules : AreModules bundle.files modules
  pub is : compiled ≡ program bundle told modules

-- it is accepted
abbrev pub IsAccepted : Bundle → Answer → Type 0
IsAccepted bundle answer = answer ≡ accepted

-- the listing of what it is compiled to; the order in which modules run isn't listed
pub record IsListed (bundle : Bundle) (answer : Answer) : Type 0 where
  pub told : List CheckedComponent
  pub are_checked : AreChecked bundle told
  pub is : answer ≡ listed (listing (program bundle told []))

-- this is answered of what it is compiled to
pub record IsOf (answers : Program → Answer) (bundle : Bundle) (answer : Answer) : Type 0 where
  pub compiled : Program
  pub compiles : Compiles bundle compiled
  pub is : answer ≡ answers compiled

-- the first page
abbrev pub IsRendered : Bundle → Answer → Type 0
IsRendered = IsOf rendered

-- the sums of so many clicks
abbrev pub IsSummed : ℕ → Bundle → Answer → Type 0
IsSummed count = IsOf (λ p. sums p (clicks count))

-- what the file beside it calls for: why that is refused, or else an answer of the program by what the file tells
pub data IsUnder (A : Type 0) (told : Option (Result A Answer)) (answers : A → Program → Answer) (bundle : Bundle) : Answer → Type 0 where
  untold : (answer : Answer) → told ≡ Some (Err answer) → IsUnder A told answers bundle answer
  under : (all : A) (answer : Answer) → told ≡ Some (Ok all) → IsOf (answers all) bundle answer → IsUnder A told answers bundle answer

-- the turns under these events
abbrev pub of_events : Flags → List Event → Program → Answer
of_events flags list p = turns p flags list

abbrev pub IsPlayed : Files → (file : List ℕ) → Flags → Bundle → Answer → Type 0
IsPlayed files file flags = IsUnder (List Event) (events_in files file) (of_events flags)

-- what becomes of these deeds
abbrev pub of_deeds : List Deed → Program → Answer
of_deeds deeds p = tests p deeds

abbrev pub IsTested : Files → (file : List ℕ) → Bundle → Answer → Type 0
IsTested files file = IsUnder (List Deed) (deeds_in files file) of_deeds

-- what is answered to what is asked of it
abbrev pub IsDone : Files → Task → Bundle → Answer → Type 0
IsDone files tasks.Accept = IsAccepted
IsDone files tasks.List = IsListed
IsDone files tasks.Render = IsRendered
IsDone files (tasks.Play events flags) = IsPlayed files events.now flags
IsDone files (tasks.Test steps) = IsTested files steps.now
IsDone files (tasks.Sum count) = IsSummed count

-- ---- all words

-- What words of a form call for. The root is looked at first, and a file beside it only where its program has no mistake.
abbrev pub Calls : Files → Form → Answer → Type 0
Calls files (Runs root file flags) = IsOver files root (IsPlayed files file flags)
Calls files (Checks root) = IsOver files root IsAccepted
Calls files (Prints root) = IsOver files root IsListed
Calls files (Renders root) = IsOver files root IsRendered
Calls files (Gens count) = IsOver (generated count) root_name (IsSummed count)
Calls files (Tests root file) = IsOver files root (IsTested files file)

-- the cause of each answer
pub data IsAnswer (words : List (List ℕ)) (files : Files) : Answer → Type 0 where
  no_form : IsNoForm words → IsAnswer words files usage
  called : (form : Form) (answer : Answer) → IsForm words form → Calls files form answer → IsAnswer words files answer
