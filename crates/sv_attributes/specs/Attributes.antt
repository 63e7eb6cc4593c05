-- The attributes that an element shows, by what its attributes and directives came to.
use Rattle.std.specs.Prelude.{ℕ, ◌&&◌, List, [], Option, slice_get, if◌then◌else◌}
use Rattle.std.specs.List.{list_any}
use Rattle.sv_attributes.specs.Attr.{name_text, is_boolean, value_attr, bound_attr, placed}
use Rattle.sv_attributes.specs.Class.{is_class_name, is_directive, class_at}
use Rattle.sv_attributes.specs.Each.{each}
use Rattle.sv_base.specs.declared.names.Name.{Name}
use Rattle.sv_code.specs.declared.fragments.FragAttr.{FragAttr}
use Rattle.sv_code.specs.declared.fragments.FragAttr.TheVariants as frag_attr
use Rattle.sv_code.specs.declared.fragments.FragValue.{FragValue}
use Rattle.sv_code.specs.declared.program.Program.{Program}
use Rattle.sv_shapes.specs.declared.shape.AttrState.{AttrState}
use Rattle.sv_tokens.specs.declared.element.Attribute.{Attribute}

-- an attribute that directives have no say in
abbrev pub plain : Program → Name → FragValue → Option AttrState → ℕ → List Attribute
plain p name value s i = placed i (name_text p name) (value_attr (is_boolean p name) value s)

-- a binding
abbrev pub bound : Program → Name → Option AttrState → ℕ → List Attribute
bound p name s i = placed i (name_text p name) (bound_attr s)

-- what is shown of the attribute or directive with a number
abbrev pub attr_at : Program → List FragAttr → List AttrState → FragAttr → ℕ → List Attribute
attr_at p attrs states (frag_attr.Plain span name value) i =
    if is_class_name p name && list_any is_directive attrs then class_at p attrs states i else plain p name value (slice_get states i) i
attr_at p attrs states (frag_attr.On handler reads) i = []
attr_at p attrs states (frag_attr.Bind span name target) i = bound p name (slice_get states i) i
attr_at p attrs states (frag_attr.Class span name test) i = class_at p attrs states i

-- the attributes in the order of the template
abbrev pub attributes : Program → List FragAttr → List AttrState → List Attribute
attributes p attrs states = each (attr_at p attrs states) 0 attrs
