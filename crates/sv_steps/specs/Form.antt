-- The form of a step, and that of a file of steps.
use Rattle.std.specs.Prelude.{ℕ, nat_eq, ◌||◌, Bool, List, codes, Option, None, Some, is_some, option_map, option_and_then, if◌then◌else◌}
use Rattle.std.specs.Option.{option_or}
use Rattle.std.specs.Str.{bytes_eq}
use Rattle.serde_json.specs.Data.{Data, null, boolean, number, string, array, object, Items}
use Rattle.serde_json.specs.Find.{get, as_number, as_u64, as_str, as_array}
use Rattle.sv_events.specs.Form.{event_of}
use Rattle.sv_events.specs.Members.{passing, has_only, filled_text}
use Rattle.sv_events.specs.Target.{place_of}
use Rattle.sv_events.specs.declared.form.Version.TheVariants.{Second}
use Rattle.sv_steps.specs.declared.form.Kind.{Kind}
use Rattle.sv_steps.specs.declared.form.Kind.TheVariants as kind
use Rattle.sv_steps.specs.declared.step.Expectation.{Expectation}
use Rattle.sv_steps.specs.declared.step.Step.{Step}
use Rattle.sv_steps.specs.declared.step.Step.TheVariants.{Event, Expect}
use Rattle.sv_steps.specs.declared.step.Want.{Want}
use Rattle.sv_steps.specs.declared.step.Want.TheVariants.{Count, Text, Attribute}

-- the keys that an expectation of a kind has besides
abbrev pub is_kind_key : Kind → List ℕ → Bool
is_kind_key kind.Count key = bytes_eq key (codes "count")
is_kind_key kind.Text key = bytes_eq key (codes "text")
is_kind_key kind.Attribute key = bytes_eq key (codes "attr") || bytes_eq key (codes "is")

-- the keys of an expectation of a kind
abbrev pub is_key : Kind → List ℕ → Bool
is_key kind key = bytes_eq key (codes "expect") || is_kind_key kind key

-- the kind of an expectation, by the keys that it has
abbrev pub kind_of : Data → Kind
kind_of d = if is_some (get (codes "count") d) then kind.Count else (if is_some (get (codes "text") d) then kind.Text else kind.Attribute)

-- a text, or none where it is null
abbrev pub text_or_null : Data → Option (Option (List ℕ))
text_or_null null = Some None
text_or_null (boolean b) = None
text_or_null (number n) = None
text_or_null (string s) = Some (Some s)
text_or_null (array ds) = None
text_or_null (object ms) = None

-- how many there are: a whole number below 2 ^ 32
abbrev pub count_in : Data → Option Want
count_in d = option_map Count (option_and_then place_of (get (codes "count") d))

abbrev pub text_in : Data → Option Want
text_in d = option_map Text (option_and_then as_str (get (codes "text") d))

abbrev pub attribute_with : Option (List ℕ) → Option (Option (List ℕ)) → Option Want
attribute_with (Some name) (Some shows) = Some (Attribute name shows)
attribute_with _ _ = None

-- the name of an attribute, a text that isn't empty, and what it shows
abbrev pub attribute_in : Data → Option Want
attribute_in d = attribute_with (option_and_then filled_text (get (codes "attr") d)) (option_and_then text_or_null (get (codes "is") d))

abbrev pub want_by : Kind → Data → Option Want
want_by kind.Count d = count_in d
want_by kind.Text d = text_in d
want_by kind.Attribute d = attribute_in d

-- what is wanted, where no other key is there
abbrev pub want_of : Data → Option Want
want_of d = if has_only (is_key (kind_of d)) d then want_by (kind_of d) d else None

abbrev pub selector_in : Data → Option (List ℕ)
selector_in d = option_and_then as_str (get (codes "expect") d)

abbrev pub expecting : List ℕ → Want → Expectation
expecting selector want = record { selector = selector; want = want }

abbrev pub expectation_with : Option (List ℕ) → Option Want → Option Expectation
expectation_with (Some selector) (Some want) = Some (expecting selector want)
expectation_with _ _ = None

-- An expectation: an object with `expect`, a text, and what is wanted.
abbrev pub expectation_of : Data → Option Expectation
expectation_of d = expectation_with (selector_in d) (want_of d)

-- A step: an event as the second version of events files has it, or an expectation.
abbrev pub step_of : Data → Option Step
step_of d = option_or (option_map Event (event_of Second d)) (option_map Expect (expectation_of d))

-- the keys of a file
abbrev pub is_file_key : List ℕ → Bool
is_file_key key = bytes_eq key (codes "version") || bytes_eq key (codes "steps")

-- whether the version of a file, a whole number, is 3
abbrev pub is_version : Data → Option Bool
is_version d = option_map (λ n. nat_eq n 3) (option_and_then as_u64 (option_and_then as_number (get (codes "version") d)))

-- what stands in the list of a file, where nothing else speaks against it
abbrev pub items_with : Option Bool → Bool → Option Items → Option Items
items_with (Some is_third) fits items = passing (λ _. is_third) (passing (λ _. fits) items)
items_with None fits items = None

-- What stands in the list of a file: an object with `steps`, a list, and `version`, the number 3, and no other key.
abbrev pub items_in : Data → Option Items
items_in d = items_with (is_version d) (has_only is_file_key d) (option_and_then as_array (get (codes "steps") d))
