-- What one attribute of an element shows.
use Rattle.std.specs.Prelude.{ℕ, Bool, true, false, List, [], Option, Some, None, option_map, unwrap_or, map, slice_get, if◌then◌else◌}
use Rattle.std.specs.Option.{option_to_list}
use Rattle.sv_attributes.specs.Values.{written}
use Rattle.sv_attributes.specs.declared.attr.TheConstants.{BOOLEAN_NAMES}
use Rattle.sv_base.specs.Names.{is_one_of}
use Rattle.sv_base.specs.declared.names.Name.{Name}
use Rattle.sv_code.specs.declared.fragments.FragValue.{FragValue}
use Rattle.sv_code.specs.declared.fragments.FragValue.TheVariants as value
use Rattle.sv_code.specs.declared.fragments.FragValuePart.{FragValuePart}
use Rattle.sv_code.specs.declared.program.Program.{Program}
use Rattle.sv_ops.specs.Compare.{is_nullish}
use Rattle.sv_ops.specs.Texts.{between}
use Rattle.sv_shapes.specs.declared.shape.AttrState.{AttrState}
use Rattle.sv_shapes.specs.declared.shape.AttrState.TheVariants as state
use Rattle.sv_tokens.specs.declared.element.Attr.{Attr}
use Rattle.sv_tokens.specs.declared.element.Attr.TheVariants as attr
use Rattle.sv_tokens.specs.declared.element.Attribute.{Attribute}
use Rattle.sv_value.specs.Change.{truthy}
use Rattle.sv_value.specs.Value.{Val, text}
use Rattle.sv_value.specs.Words.{text_of}

-- the text of a name, or the empty one
abbrev pub name_text : Program → Name → List ℕ
name_text p name = unwrap_or (slice_get p.names name.0) []

-- the attributes that are there or not
abbrev pub boolean_names : List (List ℕ)
boolean_names = map (λ name. name.now) BOOLEAN_NAMES

-- whether an attribute is there or not; the others show a text
abbrev pub is_boolean : Program → Name → Bool
is_boolean p name = is_one_of p.names boolean_names name

-- what it shows of the text of a value
abbrev pub text_attr : Val → Option Attr
text_attr v = option_map attr.Text (text_of v)

-- what it shows of a value
abbrev pub attr_of : (boolean : Bool) → Val → Option Attr
attr_of true v = if truthy v then Some attr.Flag else None
attr_of false v = if is_nullish v then None else text_attr v

-- what it shows without one
abbrev pub bare_attr : (boolean : Bool) → Attr
bare_attr true = attr.Flag
bare_attr false = attr.Text []

-- what it shows of texts, which are joined
abbrev pub joined_attr : (boolean : Bool) → List (List ℕ) → Option Attr
joined_attr boolean texts = attr_of boolean (text (between [] texts))

-- what it shows that is written in full
abbrev pub written_attr : (boolean : Bool) → List FragValuePart → Option Attr
written_attr boolean parts = joined_attr boolean (written parts)

-- what a value of these parts shows, by what they came to
abbrev pub parts_attr : (boolean : Bool) → List FragValuePart → Option AttrState → Option Attr
parts_attr boolean parts None = None
parts_attr boolean parts (Some state.Written) = written_attr boolean parts
parts_attr boolean parts (Some (state.Texts texts)) = joined_attr boolean texts
parts_attr boolean parts (Some (state.Shows a)) = a
parts_attr boolean parts (Some (state.Holds holds)) = None

-- what an attribute shows, by its value and what that came to
abbrev pub value_attr : (boolean : Bool) → FragValue → Option AttrState → Option Attr
value_attr boolean value.Bare s = Some (bare_attr boolean)
value_attr boolean (value.Parts parts) s = parts_attr boolean parts s

-- what a binding shows
abbrev pub bound_attr : Option AttrState → Option Attr
bound_attr (Some (state.Shows a)) = a
bound_attr _ = None

-- an attribute with its number in the template, if it shows anything
abbrev pub placed : ℕ → List ℕ → Option Attr → List Attribute
placed i name a = option_to_list (option_map (λ x. record { slot = i; name = name; value = x }) a)
