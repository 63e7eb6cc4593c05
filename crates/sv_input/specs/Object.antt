-- The objects of events, as listeners are handed them (DOM Standard, 'Interface Event', the fields that are recorded).
use Rattle.std.specs.Prelude.{ℕ, Bool, List, [], ◌∷◌, codes, Option, unwrap_or}
use Rattle.std.specs.Option.{option_map_or}
use Rattle.sv_document.specs.Shown.{shown_id, shown_value, is_checked, typed_or, checked_or}
use Rattle.sv_input.specs.Delivery.{Delivery}
use Rattle.sv_ops.specs.Answer.{Answer, Gives, Refuses, object_made}
use Rattle.sv_value.specs.Value.{Val, undefined, boolean, text}

-- the text that the target shows as its `id`, or an empty one
abbrev pub id_shown : Delivery → List ℕ
id_shown d = unwrap_or (shown_id d.target) []

-- the text that the target shows as its value once it took the event, or an empty one
abbrev pub value_shown : Delivery → List ℕ
value_shown d = unwrap_or (typed_or d.typed (shown_value d.target)) []

-- whether it then shows as checked
abbrev pub checked_shown : Delivery → Bool
checked_shown d = checked_or d.typed (is_checked d.target)

-- a key as a value; one that wasn't recorded is undefined
abbrev pub key_value : Option (List ℕ) → Val
key_value key = option_map_or text key undefined

-- the fields of an event's target
abbrev pub target_fields : Delivery → List (List ℕ × Val)
target_fields d =
    (codes "id", text (id_shown d)) ∷ ((codes "value", text (value_shown d)) ∷ ((codes "checked", boolean (checked_shown d)) ∷ []))

-- those of an event with this target
abbrev pub event_fields : Delivery → Val → List (List ℕ × Val)
event_fields d target =
    (codes "type", text d.event.name) ∷ ((codes "key", key_value d.event.key) ∷ ((codes "target", target) ∷ []))

abbrev pub around : Answer → (Val → Answer) → Answer
around (Gives cost v) go = go v
around (Refuses k) go = Refuses k

-- the object of an event, which takes no steps
abbrev pub object_of : Delivery → Answer
object_of d = around (object_made (target_fields d)) (λ target. object_made (event_fields d target))
