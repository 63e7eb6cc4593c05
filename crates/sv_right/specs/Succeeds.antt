-- Parts of markup that don't fault on a view.
use Rattle.std.specs.Prelude.{◌≡◌, Bool, true, false, ◌&&◌, ◌||◌, List, [], ◌∷◌, Option, Some, None, is_some}
use Rattle.sv_attributes.specs.Attr.{is_boolean}
use Rattle.sv_attributes.specs.Values.{alone, is_literal}
use Rattle.sv_base.specs.declared.names.Name.{Name}
use Rattle.sv_code.specs.declared.fragments.FragAttr.{FragAttr}
use Rattle.sv_code.specs.declared.fragments.FragAttr.TheVariants as attr
use Rattle.sv_code.specs.declared.fragments.FragValue.{FragValue}
use Rattle.sv_code.specs.declared.fragments.FragValue.TheVariants as value
use Rattle.sv_code.specs.declared.fragments.FragValuePart.{FragValuePart}
use Rattle.sv_code.specs.declared.parts.Part.{Part}
use Rattle.sv_code.specs.declared.program.Program.{Program}
use Rattle.sv_fresh.specs.Values.{value_at, holds_at, texts_at}
use Rattle.sv_value.specs.Value.{Val}
use Rattle.sv_value.specs.Words.{text_of}
use Rattle.sv_view.specs.Level.{View}

-- whether there is a value that an attribute can show: one with a text, where it shows a text
abbrev pub can_show : (boolean : Bool) → Option Val → Bool
can_show boolean None = false
can_show boolean (Some v) = boolean || is_some (text_of v)

-- an expression that is the value of an attribute, or the variable that is bound
abbrev pub part_succeeds : Program → View → Name → Part → Bool
part_succeeds p v name part = can_show (is_boolean p name) (value_at p v part)

abbrev pub parts_succeed : Program → View → Name → List FragValuePart → Option Part → Bool
parts_succeed p v name parts None = is_literal parts || is_some (texts_at p v parts)
parts_succeed p v name parts (Some part) = part_succeeds p v name part

abbrev pub value_succeeds : Program → View → Name → FragValue → Bool
value_succeeds p v name value.Bare = true
value_succeeds p v name (value.Parts parts) = parts_succeed p v name parts (alone parts)

-- an attribute or a directive
abbrev pub attr_succeeds : Program → View → FragAttr → Bool
attr_succeeds p v (attr.Plain span name shown) = value_succeeds p v name shown
attr_succeeds p v (attr.On handler reads) = true
attr_succeeds p v (attr.Bind span name target) = part_succeeds p v name target
attr_succeeds p v (attr.Class span name test) = is_some (value_at p v test)

abbrev pub Succeeds : Program → View → FragAttr → Type 0
Succeeds p v a = attr_succeeds p v a ≡ true

-- conditions, up to the first that holds
abbrev pub tests_succeed : Program → View → List Part → Bool
tests_succeed p v [] = true
tests_succeed p v (t ∷ ts) = is_some (value_at p v t) && (holds_at p v t || tests_succeed p v ts)
