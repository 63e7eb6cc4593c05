-- How an event names its element.
use Rattle.std.specs.Prelude.{ℕ, ◌&&◌, nat_le, nat_lt, List, [], ◌∷◌, length, codes, Option, None, Some, option_map, option_and_then, if◌then◌else◌}
use Rattle.serde_json.specs.Data.{Data, Items, no_items, item}
use Rattle.serde_json.specs.Find.{get, as_number, as_u64, as_array}
use Rattle.sv_events.specs.Members.{passing, filled_text}
use Rattle.sv_events.specs.declared.event.Target.{Target}
use Rattle.sv_events.specs.declared.event.Target.TheVariants.{Id, Path}
use Rattle.sv_events.specs.declared.event.TheConstants.{PATH_LIMIT}

-- items as a list
abbrev pub list_of : Items → List Data
list_of no_items = []
list_of (item d ds) = d ∷ list_of ds

-- a place: a whole number below 2 ^ 32
abbrev pub place_of : Data → Option ℕ
place_of d = passing (λ n. nat_le n 4294967295) (option_and_then as_u64 (as_number d))

-- a place before others
abbrev pub one_before : Option ℕ → Option (List ℕ) → Option (List ℕ)
one_before None places = None
one_before (Some place) places = option_map (λ more. place ∷ more) places

-- places, where all of some values are
abbrev pub places : List Data → Option (List ℕ)
places [] = Some []
places (d ∷ ds) = one_before (place_of d) (places ds)

-- a path has a place, and no more than it may
abbrev pub path_in : List Data → Option (List ℕ)
path_in ds = if nat_lt 0 (length ds) && nat_le (length ds) PATH_LIMIT then places ds else None

-- a path: a list of places
abbrev pub path_of : Data → Option (List ℕ)
path_of d = option_and_then (λ ds. path_in (list_of ds)) (as_array d)

-- an event has an `id`, a text that isn't empty, or a `path`, and not both
abbrev pub target_by : (id path : Option Data) → Option Target
target_by None None = None
target_by (Some id) None = option_map Id (filled_text id)
target_by None (Some path) = option_map Path (path_of path)
target_by (Some id) (Some path) = None

-- what an event names
abbrev pub target_of : Data → Option Target
target_of d = target_by (get (codes "id") d) (get (codes "path") d)
