-- What the members of a JSON object are. A value that is no object has none.
use Rattle.std.specs.Prelude.{ℕ, ◌&&◌, Bool, true, false, List, length, nat_lt, Option, None, Some, option_map, option_and_then, if◌then◌else◌}
use Rattle.serde_json.specs.Data.{Data, null, boolean, number, string, array, object, Members, no_members, member}
use Rattle.serde_json.specs.Find.{get, as_str, as_bool}

-- what is there, where it passes
abbrev pub passing : {A : Type 0} → (A → Bool) → Option A → Option A
passing p None = None
passing p (Some x) = if p x then Some x else None

-- each key passes
abbrev pub keys_pass : (List ℕ → Bool) → Members → Bool
keys_pass may no_members = true
keys_pass may (member key d ms) = may key && keys_pass may ms

-- the value is an object each of whose keys passes
abbrev pub has_only : (List ℕ → Bool) → Data → Bool
has_only may null = false
has_only may (boolean b) = false
has_only may (number n) = false
has_only may (string s) = false
has_only may (array ds) = false
has_only may (object ms) = keys_pass may ms

-- a text that isn't empty
abbrev pub filled_text : Data → Option (List ℕ)
filled_text d = passing (λ t. nat_lt 0 (length t)) (as_str d)

-- the text of a member that is there and isn't empty
abbrev pub filled : List ℕ → Data → Option (List ℕ)
filled key d = option_and_then filled_text (get key d)

-- a member that may be missing, and is of a kind where it isn't
abbrev pub optional : {A : Type 0} → (Data → Option A) → Option Data → Option (Option A)
optional kind None = Some None
optional kind (Some d) = option_map Some (kind d)

-- the text of a member that may be missing
abbrev pub text_at : List ℕ → Data → Option (Option (List ℕ))
text_at key d = optional as_str (get key d)

-- the truth value of a member that may be missing
abbrev pub flag_at : List ℕ → Data → Option (Option Bool)
flag_at key d = optional as_bool (get key d)
