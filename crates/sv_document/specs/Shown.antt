-- What an element shows: what a user left in it is laid over its attributes.
use Rattle.std.specs.Prelude.{ℕ, ◌||◌, Bool, false, List, codes, Option, None, Some, is_some, option_map, option_and_then}
use Rattle.std.specs.List.{find}
use Rattle.std.specs.Option.{option_map_or}
use Rattle.std.specs.Str.{bytes_eq}
use Rattle.sv_tokens.specs.Token.{Element as Shape}
use Rattle.sv_tokens.specs.declared.element.Attr.{Attr}
use Rattle.sv_tokens.specs.declared.element.Attr.TheVariants as attr
use Rattle.sv_tokens.specs.declared.element.Attribute.{Attribute}
use Rattle.sv_tokens.specs.declared.element.Typed.{Typed}
use Rattle.sv_tokens.specs.declared.element.Typed.TheVariants as typed
use Rattle.sv_document.specs.Element.{Element}

-- what an element shows of its own
abbrev pub shape_of : Element → Shape
shape_of e = record { name = e.name; attributes = e.attributes; typed = e.typed }

-- what the first attribute of a name shows
abbrev pub value_at : List ℕ → List Attribute → Option Attr
value_at name attributes = option_map (λ a. a.value) (find (λ a. bytes_eq a.name name) attributes)

-- the text of an attribute; a flag has none
abbrev pub text_of : Attr → Option (List ℕ)
text_of attr.Flag = None
text_of (attr.Text text) = Some text

-- the text of the first attribute of a name
abbrev pub text_at : List ℕ → List Attribute → Option (List ℕ)
text_at name attributes = option_and_then text_of (value_at name attributes)

-- the text that was typed, or else another
abbrev pub typed_or : Option Typed → Option (List ℕ) → Option (List ℕ)
typed_or None other = other
typed_or (Some (typed.Text text)) other = Some text
typed_or (Some (typed.Checked checked)) other = other

-- the text that an element shows as its value
abbrev pub shown_value : Element → Option (List ℕ)
shown_value e = typed_or e.typed (text_at (codes "value") e.attributes)

-- whether a box was left checked, or else another
abbrev pub checked_or : Option Typed → Bool → Bool
checked_or None other = other
checked_or (Some (typed.Text text)) other = other
checked_or (Some (typed.Checked checked)) other = checked

-- the text that an element shows as its `id`
abbrev pub shown_id : Element → Option (List ℕ)
shown_id e = text_at (codes "id") e.attributes

-- an element shows as checked
abbrev pub is_checked : Element → Bool
is_checked e = checked_or e.typed (is_some (value_at (codes "checked") e.attributes))

-- its `type` is that of a box which is checked or not
abbrev pub is_check_kind : Element → Bool
is_check_kind e = option_map_or (λ kind. bytes_eq kind (codes "checkbox") || bytes_eq kind (codes "radio")) (text_at (codes "type") e.attributes) false

-- its `type` is that of a number
abbrev pub is_number_kind : Element → Bool
is_number_kind e = option_map_or (λ kind. bytes_eq kind (codes "number") || bytes_eq kind (codes "range")) (text_at (codes "type") e.attributes) false
