-- What an element shows under a name, as text: what a user left in it is laid over its attributes.
use Rattle.std.specs.Prelude.{Bool, List, [], codes, Option, None, Some, option_map, unwrap_or, if◌then◌else◌}
use Rattle.std.specs.Prelude.{ℕ}
use Rattle.std.specs.Str.{bytes_eq}
use Rattle.sv_document.specs.Element.{Element}
use Rattle.sv_document.specs.Shown.{value_at}
use Rattle.sv_tokens.specs.declared.element.Attr.{Attr}
use Rattle.sv_tokens.specs.declared.element.Attr.TheVariants as attr
use Rattle.sv_tokens.specs.declared.element.Typed.{Typed}
use Rattle.sv_tokens.specs.declared.element.Typed.TheVariants as typed

-- the text of an attribute; a flag has the empty one
abbrev pub text_of : Attr → List ℕ
text_of attr.Flag = []
text_of (attr.Text text) = text

-- the text of a flag, where it is there
abbrev pub checked_text : Bool → Option (List ℕ)
checked_text checked = if checked then Some [] else None

-- what a user left under a name, if anything: the text of a text field, or whether a box is checked
abbrev pub left_at : List ℕ → Option Typed → Option (Option (List ℕ))
left_at name None = None
left_at name (Some (typed.Text text)) = if bytes_eq name (codes "value") then Some (Some text) else None
left_at name (Some (typed.Checked checked)) = if bytes_eq name (codes "checked") then Some (checked_text checked) else None

-- what an element shows under a name: what a user left there, or else its first attribute of that name
abbrev pub shown_at : List ℕ → Element → Option (List ℕ)
shown_at name e = unwrap_or (left_at name e.typed) (option_map text_of (value_at name e.attributes))
