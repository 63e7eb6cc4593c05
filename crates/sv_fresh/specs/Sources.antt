-- From where what is shown is taken: expressions are evaluated now, or what patches recorded of them is read.
use Rattle.std.specs.Prelude.{ℕ, List, [], map, Option, option_map, unwrap_or}
use Rattle.sv_attributes.specs.Attributes.{attributes}
use Rattle.sv_code.specs.declared.fragments.FragAttr.{FragAttr}
use Rattle.sv_code.specs.declared.parts.Part.{Part}
use Rattle.sv_code.specs.declared.program.Program.{Program}
use Rattle.sv_fresh.specs.Blocks.{choose, items_in}
use Rattle.sv_fresh.specs.Slots.{props, prop_with}
use Rattle.sv_fresh.specs.States.{states}
use Rattle.sv_fresh.specs.Values.{value_at, text_at}
use Rattle.sv_fresh.specs.declared.source.Source.{Source}
use Rattle.sv_fresh.specs.declared.source.Source.TheVariants.{Evaluated, Recorded}
use Rattle.sv_shapes.specs.Shapes.{Opened, text_in, states_in, arm_in, rows_in, props_in}
use Rattle.sv_shapes.specs.Showing.{Showing, shown_of}
use Rattle.sv_shapes.specs.declared.shape.AttrState.{AttrState}
use Rattle.sv_shapes.specs.declared.shape.Row.{Row}
use Rattle.sv_shapes.specs.declared.shape.SlotProp.{SlotProp}
use Rattle.sv_tokens.specs.declared.element.Attribute.{Attribute}
use Rattle.sv_value.specs.Value.{Val}
use Rattle.sv_view.specs.Level.{View}
use Rattle.sv_view.specs.View.{started}
use Rattle.sv_world.specs.World.{presented_before}
use Rattle.sv_world.specs.declared.world.World.{World}

-- the text of an expression, if it has one
abbrev pub text_by : Source → Program → Part → View → Opened → Option (List ℕ)
text_by Evaluated p part v old = text_at p v part
text_by Recorded p part v old = text_in old

-- what the attributes of an element came to
abbrev pub states_by : Source → Program → List FragAttr → View → Opened → List AttrState
states_by Evaluated p attrs v old = states p v attrs
states_by Recorded p attrs v old = states_in old

-- the attributes that it shows of that
abbrev pub attributes_by : Source → Program → List FragAttr → View → Opened → List Attribute
attributes_by source p attrs v old = attributes p attrs (states_by source p attrs v old)

-- the branch of an if block with these conditions
abbrev pub arm_by : Source → Program → List Part → View → Opened → ℕ
arm_by Evaluated p tests v old = choose p v tests 0
arm_by Recorded p tests v old = unwrap_or (arm_in old) 0

-- the items of the rows that are recorded
abbrev pub row_items : List Row → List Val
row_items rows = map (λ row. row.item) rows

-- the items of an each block
abbrev pub items_by : Source → Program → Part → View → Opened → List Val
items_by Evaluated p list v old = items_in (value_at p v list)
items_by Recorded p list v old = row_items (rows_in old)

-- the props that are recorded
abbrev pub plain_props : List SlotProp → List SlotProp
plain_props olds = map (λ prop. prop_with prop.name prop.value) olds

-- the props of a slot
abbrev pub props_by : Source → Program → List FragAttr → View → Opened → List SlotProp
props_by Evaluated p attrs v old = props p v attrs
props_by Recorded p attrs v old = plain_props (props_in old)

-- the view of an instance that is recorded, before its owner's: nothing is evaluated on it, and it has no cells
abbrev pub recorded_view : Showing → Option View → ℕ → Option View
recorded_view showing owner n = option_map (λ shown. started n [] owner) (shown_of showing n)

-- the view of an instance, before its owner's
abbrev pub view_by : Source → World → Showing → Option View → ℕ → Option View
view_by Evaluated world showing owner n = presented_before owner world.states world.modules n
view_by Recorded world showing owner n = recorded_view showing owner n
