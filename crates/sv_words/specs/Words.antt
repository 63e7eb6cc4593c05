-- The words of the command line.
use Rattle.std.specs.Prelude.{◌≡◌, ℕ, ◌<◌, ◌≤◌, ◌||◌, ◌==◌, List, [], ◌∷◌, ◌++◌, length, Bool, true, false, Option, Some, None, option_and_then, codes, decimal, if◌then◌else◌}
use Rattle.std.specs.List.{list_all}
use Rattle.std.specs.Char.{is_ascii_alphanumeric}
use Rattle.std.specs.Str.{bytes_eq}
use Rattle.sv_play.specs.declared.flags.Flags.{Flags}
use Rattle.sv_words.specs.declared.command.Command.{Command}
use Rattle.sv_words.specs.declared.command.Command.TheVariants.{Run, Check, Print, Render, Gen, Test}
use Rattle.sv_words.specs.declared.command.TheConstants.{GEN_LIMIT}

-- a letter or digit of ASCII, `_` or `-`
abbrev pub is_name_byte : ℕ → Bool
is_name_byte c = is_ascii_alphanumeric c || c == 95 || c == 45

-- the name of a root file: such bytes, and then `.svelte`
pub record IsRoot (word : List ℕ) : Type 0 where
  pub name : List ℕ
  pub some : 0 < length name
  pub bytes : list_all is_name_byte name ≡ true
  pub ends : word ≡ name ++ codes ".svelte"

-- the name of an events file: not empty, and not with two dashes at its front
pub record IsEvents (word : List ℕ) : Type 0 where
  pub some : 0 < length word
  pub no_flag : (rest : List ℕ) → word ≡ 45 ∷ 45 ∷ rest → ⊥

-- the words for flags
abbrev pub log_flag : List ℕ
log_flag = codes "--log"

abbrev pub serials_flag : List ℕ
serials_flag = codes "--serials"

abbrev pub tally_flag : List ℕ
tally_flag = codes "--tally"

abbrev pub no_flags : Flags
no_flags = record { logs = false; serials = false; tally = false }

-- a flag that hasn't been set is
abbrev pub set_once : Bool → Flags → Option Flags
set_once set flags = if set then None else Some flags

-- flags with one more, which a word asks for
abbrev pub with_flag : Flags → List ℕ → Option Flags
with_flag flags word =
    if bytes_eq word log_flag then set_once flags.logs (record flags { logs = true })
    else if bytes_eq word serials_flag then set_once flags.serials (record flags { serials = true })
    else if bytes_eq word tally_flag then set_once flags.tally (record flags { tally = true }) else None

abbrev pub flags_from : Flags → List (List ℕ) → Option Flags
flags_from flags [] = Some flags
flags_from flags (word ∷ words) = option_and_then (λ f. flags_from f words) (with_flag flags word)

-- the flags that words ask for, each once at most, in any order
abbrev pub flags_of : List (List ℕ) → Option Flags
flags_of words = flags_from no_flags words

-- the words `run ROOT EVENTS`, with flags behind them
pub record IsRun (words : List (List ℕ)) (root events : List ℕ) (flags : Flags) : Type 0 where
  pub marks : List (List ℕ)
  pub form : words ≡ codes "run" ∷ root ∷ events ∷ marks
  pub root_name : IsRoot root
  pub events_name : IsEvents events
  pub asked : flags_of marks ≡ Some flags

-- a command with the name of a root file
pub record IsOfRoot (command : List ℕ) (words : List (List ℕ)) (root : List ℕ) : Type 0 where
  pub form : words ≡ command ∷ root ∷ []
  pub root_name : IsRoot root

-- the words `check ROOT`
abbrev pub IsCheck : List (List ℕ) → List ℕ → Type 0
IsCheck words root = IsOfRoot (codes "check") words root

-- the words `print ROOT`
abbrev pub IsPrint : List (List ℕ) → List ℕ → Type 0
IsPrint words root = IsOfRoot (codes "print") words root

-- the words `render ROOT`
abbrev pub IsRender : List (List ℕ) → List ℕ → Type 0
IsRender words root = IsOfRoot (codes "render") words root

-- a number as it is written, without leading zeros, up to 1,000
pub record IsCount (word : List ℕ) (count : ℕ) : Type 0 where
  pub spelled : word ≡ decimal count
  pub most : count ≤ GEN_LIMIT

-- the words `gen N`
pub record IsGen (words : List (List ℕ)) (count : ℕ) : Type 0 where
  pub form : words ≡ codes "gen" ∷ decimal count ∷ []
  pub most : count ≤ GEN_LIMIT

-- the words `test ROOT EVENTS`
pub record IsTest (words : List (List ℕ)) (root events : List ℕ) : Type 0 where
  pub form : words ≡ codes "test" ∷ root ∷ events ∷ []
  pub root_name : IsRoot root
  pub events_name : IsEvents events

-- the forms of words
pub data Form : Type 0 where
  Runs : (root events : List ℕ) (flags : Flags) → Form
  Checks : (root : List ℕ) → Form
  Prints : (root : List ℕ) → Form
  Renders : (root : List ℕ) → Form
  Gens : (count : ℕ) → Form
  Tests : (root events : List ℕ) → Form

-- the words are of a form
abbrev pub IsForm : List (List ℕ) → Form → Type 0
IsForm words (Runs root events flags) = IsRun words root events flags
IsForm words (Checks root) = IsCheck words root
IsForm words (Prints root) = IsPrint words root
IsForm words (Renders root) = IsRender words root
IsForm words (Gens count) = IsGen words count
IsForm words (Tests root events) = IsTest words root events

-- the words aren't `run ROOT EVENTS` with flags, or not a command with a root, or not `gen N`, or not `test ROOT EVENTS`
abbrev pub IsNoRun : List (List ℕ) → Type 0
IsNoRun words = (root events : List ℕ) (flags : Flags) → IsRun words root events flags → ⊥

abbrev pub IsNoneOfRoot : List ℕ → List (List ℕ) → Type 0
IsNoneOfRoot command words = (root : List ℕ) → IsOfRoot command words root → ⊥

abbrev pub IsNoGen : List (List ℕ) → Type 0
IsNoGen words = (count : ℕ) → IsGen words count → ⊥

abbrev pub IsNoTest : List (List ℕ) → Type 0
IsNoTest words = (root events : List ℕ) → IsTest words root events → ⊥

-- they are of no form
abbrev pub IsNoForm : List (List ℕ) → Type 0
IsNoForm words = (form : Form) → IsForm words form → ⊥

-- the form of a command
abbrev pub form_of : Command → Form
form_of (Run root events flags) = Runs root.now events.now flags
form_of (Check root) = Checks root.now
form_of (Print root) = Prints root.now
form_of (Render root) = Renders root.now
form_of (Gen count) = Gens count
form_of (Test root events) = Tests root.now events.now

-- the words are of the form of a command
abbrev pub IsCommand : List (List ℕ) → Command → Type 0
IsCommand words command = IsForm words (form_of command)

-- no words are of two forms
abbrev pub IsOneForm : Type 0
IsOneForm = (words : List (List ℕ)) (one other : Form) → IsForm words one → IsForm words other → one ≡ other
