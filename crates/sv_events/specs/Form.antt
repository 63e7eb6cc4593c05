-- The form of an event, and that of a file of events.
use Rattle.std.specs.Prelude.{ℕ, nat_eq, ◌&&◌, ◌||◌, Bool, false, List, codes, Option, None, Some, option_and_then, if◌then◌else◌}
use Rattle.std.specs.Str.{bytes_eq}
use Rattle.serde_json.specs.Data.{Data, Items}
use Rattle.serde_json.specs.Find.{get, as_number, as_u64, as_array}
use Rattle.sv_events.specs.Members.{passing, has_only, filled, text_at, flag_at}
use Rattle.sv_events.specs.Target.{target_of}
use Rattle.sv_events.specs.declared.event.Event.{Event}
use Rattle.sv_events.specs.declared.event.Target.{Target}
use Rattle.sv_events.specs.declared.form.Version.{Version}
use Rattle.sv_events.specs.declared.form.Version.TheVariants.{First, Second}

-- the keys that every event may have
abbrev pub is_shared_key : List ℕ → Bool
is_shared_key key = bytes_eq key (codes "type") || bytes_eq key (codes "id") || bytes_eq key (codes "key")

-- the key that the second version has besides
abbrev pub is_new_key : Version → List ℕ → Bool
is_new_key First key = false
is_new_key Second key = bytes_eq key (codes "path")

-- the key that events of this type may have besides: `value` with `input`, `checked` with `change`
abbrev pub is_own_key : (name key : List ℕ) → Bool
is_own_key name key = (bytes_eq name (codes "input") && bytes_eq key (codes "value")) || (bytes_eq name (codes "change") && bytes_eq key (codes "checked"))

-- the keys that an event of this type may have
abbrev pub may_have : Version → (name key : List ℕ) → Bool
may_have version name key = is_shared_key key || (is_new_key version key || is_own_key name key)

-- the event of these parts, where none is wrong
abbrev pub event_with : Option Target → (name : Option (List ℕ)) (value : Option (Option (List ℕ))) (checked : Option (Option Bool)) (key : Option (Option (List ℕ))) → Option Event
event_with (Some target) (Some name) (Some value) (Some checked) (Some key) = Some (record { name = name; target = target; value = value; checked = checked; key = key })
event_with _ _ _ _ _ = None

-- The parts of an event with this target: a `type`, a text that isn't empty, and perhaps a `value`, a text, whether it is `checked`, and a `key`, a text.
abbrev pub parts_of : Option Target → Data → Option Event
parts_of target d = event_with target (filled (codes "type") d) (text_at (codes "value") d) (flag_at (codes "checked") d) (text_at (codes "key") d)

-- whether a value has only keys that an event of this type may have
abbrev pub has_keys : Version → Data → Event → Bool
has_keys version d event = has_only (may_have version event.name) d

-- An event: an object with the parts of one, and with no key that an event of its type may not have.
abbrev pub event_of : Version → Data → Option Event
event_of version d = passing (has_keys version d) (parts_of (target_of d) d)

-- the keys of a file
abbrev pub is_file_key : List ℕ → Bool
is_file_key key = bytes_eq key (codes "version") || bytes_eq key (codes "events")

-- the version of a number
abbrev pub version_with : ℕ → Option Version
version_with n = if nat_eq n 1 then Some First else (if nat_eq n 2 then Some Second else None)

-- the version of a file: the number 1 or 2
abbrev pub version_of : Data → Option Version
version_of d = option_and_then version_with (option_and_then as_u64 (option_and_then as_number (get (codes "version") d)))

-- What stands in the list of a file: an object with `events`, a list, and `version`, and no other key.
abbrev pub items_in : Data → Option Items
items_in d = passing (λ _. has_only is_file_key d) (option_and_then as_array (get (codes "events") d))
