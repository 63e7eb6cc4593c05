-- What the attributes and directives of an element come to now.
use Rattle.std.specs.Prelude.{ℕ, List, Option, Some, None, map, if◌then◌else◌}
use Rattle.std.specs.Option.{option_and_then}
use Rattle.sv_attributes.specs.Attr.{is_boolean, attr_of}
use Rattle.sv_attributes.specs.Values.{alone, is_literal}
use Rattle.sv_base.specs.declared.names.Name.{Name}
use Rattle.sv_code.specs.declared.fragments.FragAttr.{FragAttr}
use Rattle.sv_code.specs.declared.fragments.FragAttr.TheVariants as frag_attr
use Rattle.sv_code.specs.declared.fragments.FragValue.{FragValue}
use Rattle.sv_code.specs.declared.fragments.FragValue.TheVariants as value
use Rattle.sv_code.specs.declared.fragments.FragValuePart.{FragValuePart}
use Rattle.sv_code.specs.declared.parts.Part.{Part}
use Rattle.sv_code.specs.declared.program.Program.{Program}
use Rattle.sv_fresh.specs.Values.{value_at, holds_at, texts_at}
use Rattle.sv_shapes.specs.declared.shape.AttrState.{AttrState}
use Rattle.sv_shapes.specs.declared.shape.AttrState.TheVariants as state
use Rattle.sv_view.specs.Level.{View}

-- an expression that is the value of an attribute, or the variable that is bound
abbrev pub shown_at : Program → View → Name → Part → AttrState
shown_at p v name part = state.Shows (option_and_then (attr_of (is_boolean p name)) (value_at p v part))

-- texts, where each part has one
abbrev pub with_texts : Option (List (List ℕ)) → AttrState
with_texts None = state.Shows None
with_texts (Some texts) = state.Texts texts

abbrev pub parts_state : Program → View → Name → List FragValuePart → Option Part → AttrState
parts_state p v name parts None = if is_literal parts then state.Written else with_texts (texts_at p v parts)
parts_state p v name parts (Some part) = shown_at p v name part

abbrev pub value_state : Program → View → Name → FragValue → AttrState
value_state p v name value.Bare = state.Written
value_state p v name (value.Parts parts) = parts_state p v name parts (alone parts)

-- an attribute or a directive
abbrev pub attr_state : Program → View → FragAttr → AttrState
attr_state p v (frag_attr.Plain span name value) = value_state p v name value
attr_state p v (frag_attr.On handler reads) = state.Written
attr_state p v (frag_attr.Bind span name target) = shown_at p v name target
attr_state p v (frag_attr.Class span name test) = state.Holds (holds_at p v test)

-- those of an element, in the order of the template
abbrev pub states : Program → View → List FragAttr → List AttrState
states p v attrs = map (attr_state p v) attrs
