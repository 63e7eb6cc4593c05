-- Bytes as JSON, and lists in it.
use Rattle.std.specs.Prelude.{option_and_then}
use Rattle.std.proofs.Common.{◌≡◌, ℕ, List, [], ◌∷◌, map, Bool, true, false, Option, refl, ap, sym, ◌∙◌}
use Rattle.std.specs.Prelude.{Some, None, IsUtf8, option_map, if◌then◌else◌}
use Rattle.std.specs.Str.{is_utf8}
use Rattle.std.proofs.lemmas.Str.{is_utf8-from_IsUtf8, IsUtf8-from_is_utf8}
use Rattle.serde_json.specs.Data.{Data, Items}
use Rattle.serde_json.specs.Read.{read}
use Rattle.serde_json.specs.View.{view, items_of, items_view}
use Rattle.serde_json.specs.declared.value.Value.{Value}
use Rattle.sv_events.specs.EventsFile.{json_of}
use Rattle.sv_events.specs.Target.{list_of}

-- bytes that are read are JSON
pub json_read : (bytes : List ℕ) (d : Data) → IsUtf8 bytes → read bytes ≡ Some d → json_of bytes ≡ Some d
json_read bytes d text is = rw (is_utf8-from_IsUtf8 bytes text) is

unread : (bytes : List ℕ) (b : Bool) → is_utf8 bytes ≡ b → (IsUtf8 bytes → read bytes ≡ None) → (if b then read bytes else None) ≡ None
unread bytes true text none = none (IsUtf8-from_is_utf8 bytes text)
unread bytes false text none = refl

-- bytes that are not read are none
pub json_none : (bytes : List ℕ) → (IsUtf8 bytes → read bytes ≡ None) → json_of bytes ≡ None
json_none bytes none = unread bytes (is_utf8 bytes) refl none

list-items : (ds : List Data) → list_of (items_of ds) ≡ ds
list-items [] = refl
list-items (d ∷ ds) = ap (λ rest. d ∷ rest) (list-items ds)

-- the list that a value shows
pub list_seen : (vs : List Value) (found : Option Items) → Some (items_view vs) ≡ found → option_map list_of found ≡ Some (map view vs)
list_seen vs found is = ap (option_map list_of) (sym is) ∙ ap Some (list-items (map view vs))

-- what is made of the list that a value shows
pub list_then : {A : Type 0} (f : List Data → Option A) (vs : List Value) (found : Option Items) → Some (items_view vs) ≡ found → f (map view vs) ≡ option_and_then (λ ds. f (list_of ds)) found
list_then f vs found is = ap f (sym (list-items (map view vs))) ∙ ap (option_and_then (λ ds. f (list_of ds))) is
