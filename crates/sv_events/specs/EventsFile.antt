-- What the bytes of an events file tell: the events of a run, or the first cause why there are none.
use Rattle.std.specs.Prelude.{◌≡◌, ℕ, ◌+◌, List, [], ◌∷◌, ◌++◌, length, nat_lt, Option, None, Some, Result, Ok, Err, Vec, ⊤, option_map, if◌then◌else◌}
use Rattle.std.specs.declared.alloc.Global.{Global}
use Rattle.std.specs.Str.{is_utf8}
use Rattle.serde_json.specs.Data.{Data}
use Rattle.serde_json.specs.Read.{read}
use Rattle.sv_base.specs.declared.limits.TheConstants.{EVENT_LIMIT}
use Rattle.sv_events.specs.Form.{event_of, version_of, items_in}
use Rattle.sv_events.specs.Target.{list_of}
use Rattle.sv_events.specs.declared.event.Event.{Event}
use Rattle.sv_events.specs.declared.form.Version.{Version}
use Rattle.sv_events.specs.declared.refusal.EventsError.{EventsError}
use Rattle.sv_events.specs.declared.refusal.EventsError.TheVariants.{NotJson, BadForm, TooMany, BadShape, NoMemory}

-- events, or why there are none
abbrev pub Told : Type 0
Told = Result (List Event) EventsError

-- the JSON value of bytes that are UTF-8 (RFC 8259)
abbrev pub json_of : List ℕ → Option Data
json_of bytes = if is_utf8 bytes then read bytes else None

-- what is told with these events before it
abbrev pub behind : List Event → Told → Told
behind events (Ok more) = Ok (events ++ more)
behind events (Err error) = Err error

-- an event before those that are told, where it is one; it stands at this number
abbrev pub first_then : (at : ℕ) → Option Event → Told → Told
first_then at None told = Err (BadShape at)
first_then at (Some event) told = behind (event ∷ []) told

-- the events of values that are counted from this number on, or the first that is none
abbrev pub each_event : Version → (at : ℕ) → List Data → Told
each_event version at [] = Ok []
each_event version at (d ∷ ds) = first_then at (event_of version d) (each_event version (at + 1) ds)

-- the events of a list, where it isn't too long
abbrev pub listed : Version → List Data → Told
listed version ds = if nat_lt EVENT_LIMIT (length ds) then Err TooMany else each_event version 0 ds

-- the events of a list in a file of some version, where there are both
abbrev pub in_form : Option Version → Option (List Data) → Told
in_form None ds = Err BadForm
in_form (Some version) None = Err BadForm
in_form (Some version) (Some ds) = listed version ds

-- the events of a value
abbrev pub in_json : Option Data → Told
in_json None = Err NotJson
in_json (Some d) = in_form (version_of d) (option_map list_of (items_in d))

-- the events of a file
abbrev pub events_of : List ℕ → Told
events_of bytes = in_json (json_of bytes)

-- code answers what is told, or finds no memory
abbrev pub Answers : Result (Vec Event Global) EventsError → Told → Type 0
Answers (Ok events) told = told ≡ Ok events.items
Answers (Err NoMemory) told = ⊤
Answers (Err error) told = told ≡ Err error
