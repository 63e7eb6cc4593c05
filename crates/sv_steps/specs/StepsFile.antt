-- What the bytes of a file of steps tell: the steps of a test, or the first cause why there are none.
use Rattle.std.specs.Prelude.{◌≡◌, ℕ, ◌+◌, List, [], ◌∷◌, ◌++◌, length, nat_lt, Option, None, Some, Result, Ok, Err, Vec, ⊤, option_map, if◌then◌else◌}
use Rattle.std.specs.declared.alloc.Global.{Global}
use Rattle.serde_json.specs.Data.{Data}
use Rattle.sv_base.specs.declared.limits.TheConstants.{EVENT_LIMIT}
use Rattle.sv_events.specs.EventsFile.{json_of}
use Rattle.sv_events.specs.Target.{list_of}
use Rattle.sv_events.specs.declared.refusal.EventsError.{EventsError}
use Rattle.sv_events.specs.declared.refusal.EventsError.TheVariants.{NotJson, BadForm, TooMany, BadShape, NoMemory}
use Rattle.sv_steps.specs.Form.{step_of, items_in}
use Rattle.sv_steps.specs.declared.step.Step.{Step}

-- steps, or why there are none
abbrev pub Told : Type 0
Told = Result (List Step) EventsError

-- what is told with these steps before it
abbrev pub behind : List Step → Told → Told
behind steps (Ok more) = Ok (steps ++ more)
behind steps (Err error) = Err error

-- a step before those that are told, where it is one; it stands at this number
abbrev pub first_then : (at : ℕ) → Option Step → Told → Told
first_then at None told = Err (BadShape at)
first_then at (Some step) told = behind (step ∷ []) told

-- the steps of values that are counted from this number on, or the first that is none
abbrev pub each_step : (at : ℕ) → List Data → Told
each_step at [] = Ok []
each_step at (d ∷ ds) = first_then at (step_of d) (each_step (at + 1) ds)

-- the steps of a list, where it isn't too long
abbrev pub listed : List Data → Told
listed ds = if nat_lt EVENT_LIMIT (length ds) then Err TooMany else each_step 0 ds

-- the steps of a list in a file, where there is one
abbrev pub in_form : Option (List Data) → Told
in_form None = Err BadForm
in_form (Some ds) = listed ds

-- the steps of a value
abbrev pub in_json : Option Data → Told
in_json None = Err NotJson
in_json (Some d) = in_form (option_map list_of (items_in d))

-- the steps of a file
abbrev pub steps_of : List ℕ → Told
steps_of bytes = in_json (json_of bytes)

-- code answers what is told, or finds no memory
abbrev pub Answers : Result (Vec Step Global) EventsError → Told → Type 0
Answers (Ok steps) told = told ≡ Ok steps.items
Answers (Err NoMemory) told = ⊤
Answers (Err error) told = told ≡ Err error
