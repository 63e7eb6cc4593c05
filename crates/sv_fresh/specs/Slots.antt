-- The props that a slot gives to its content.
use Rattle.std.specs.Prelude.{List, [], Option, Some, None, option_map, true}
use Rattle.std.specs.List.{flat_map}
use Rattle.std.specs.Option.{option_to_list}
use Rattle.sv_base.specs.declared.names.Name.{Name}
use Rattle.sv_code.specs.declared.fragments.FragAttr.{FragAttr}
use Rattle.sv_code.specs.declared.fragments.FragAttr.TheVariants as attr
use Rattle.sv_code.specs.declared.fragments.FragValue.{FragValue}
use Rattle.sv_code.specs.declared.fragments.FragValue.TheVariants as value
use Rattle.sv_code.specs.declared.program.Program.{Program}
use Rattle.sv_fresh.specs.Values.{value_at, parts_value}
use Rattle.sv_shapes.specs.declared.shape.SlotProp.{SlotProp}
use Rattle.sv_value.specs.Value.{Val, boolean}
use Rattle.sv_view.specs.Level.{View}

-- what a value passes, which is true where there is none
abbrev pub passed_value : Program → View → FragValue → Option Val
passed_value p v value.Bare = Some (boolean true)
passed_value p v (value.Parts parts) = parts_value p v parts

-- a prop with a value; its number is never looked at
abbrev pub prop_with : Name → Val → SlotProp
prop_with name value = record { name = name; value = value; number = 0; texts = [] }

-- what an attribute gives, if anything
abbrev pub prop_of : Program → View → FragAttr → Option SlotProp
prop_of p v (attr.Plain span name value) = option_map (prop_with name) (passed_value p v value)
prop_of p v (attr.On handler reads) = None
prop_of p v (attr.Bind span name part) = option_map (prop_with name) (value_at p v part)
prop_of p v (attr.Class span name part) = None

-- the props of a slot
abbrev pub props : Program → View → List FragAttr → List SlotProp
props p v attrs = flat_map (λ a. option_to_list (prop_of p v a)) attrs
