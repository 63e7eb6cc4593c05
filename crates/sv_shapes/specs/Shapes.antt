-- What a shape of each kind keeps. A shape of another kind than the one that is asked for keeps nothing.
use Rattle.std.specs.Prelude.{ℕ, List, [], Option, Some, None, option_map}
use Rattle.sv_shapes.specs.declared.shape.AttrState.{AttrState}
use Rattle.sv_shapes.specs.declared.shape.KeyState.{KeyState}
use Rattle.sv_shapes.specs.declared.shape.Row.{Row}
use Rattle.sv_shapes.specs.declared.shape.Shape.{Shape, Shape-F, out-Shape}
use Rattle.sv_shapes.specs.declared.shape.SlotProp.{SlotProp}
use Rattle.sv_tokens.specs.declared.element.Typed.{Typed}

-- one layer of what was shown, if anything was
abbrev pub Opened : Type 0
Opened = Option (Shape-F Shape Row)

abbrev pub opened : Option Shape → Opened
opened = option_map out-Shape

-- the mark of a text
abbrev pub mark_in : Opened → Option ℕ
mark_in (Some (Shape-F.Literal mark)) = Some mark
mark_in (Some (Shape-F.Text mark text)) = Some mark
mark_in _ = None

-- the text that was shown of an expression
abbrev pub text_in : Opened → Option (List ℕ)
text_in (Some (Shape-F.Text mark text)) = Some text
text_in _ = None

-- the mark of an element
abbrev pub element_in : Opened → Option ℕ
element_in (Some (Shape-F.Element mark typed states parts)) = Some mark
element_in _ = None

-- the state that a user left in an element
abbrev pub typed_in : Opened → Option Typed
typed_in (Some (Shape-F.Element mark typed states parts)) = typed
typed_in _ = None

-- what the attributes of an element came to
abbrev pub states_in : Opened → List AttrState
states_in (Some (Shape-F.Element mark typed states parts)) = states
states_in _ = []

-- the texts that are kept of the attributes of a component's tag
abbrev pub texts_in : Opened → List (List (List ℕ))
texts_in (Some (Shape-F.Tag place texts)) = texts
texts_in _ = []

-- the place of a component's tag
abbrev pub place_in : Opened → Option ℕ
place_in (Some (Shape-F.Tag place texts)) = Some place
place_in _ = None

-- the props of a slot
abbrev pub props_in : Opened → List SlotProp
props_in (Some (Shape-F.Slot props parts)) = props
props_in _ = []

-- the branch of an if block
abbrev pub arm_in : Opened → Option ℕ
arm_in (Some (Shape-F.If arm parts)) = Some arm
arm_in _ = None

-- the number of the list of an each block
abbrev pub list_in : Opened → Option ℕ
list_in (Some (Shape-F.Each number rows none)) = Some number
list_in _ = None

-- the rows of an each block
abbrev pub rows_in : Opened → List Row
rows_in (Some (Shape-F.Each number rows none)) = rows
rows_in _ = []

-- what a key block showed
abbrev pub key_in : Opened → Option KeyState
key_in (Some (Shape-F.Key state parts)) = Some state
key_in _ = None

-- the content; that of an each block is the branch for no rows
abbrev pub parts_in : Opened → List Shape
parts_in (Some (Shape-F.Element mark typed states parts)) = parts
parts_in (Some (Shape-F.Slot props parts)) = parts
parts_in (Some (Shape-F.If arm parts)) = parts
parts_in (Some (Shape-F.Each number rows none)) = none
parts_in (Some (Shape-F.Key state parts)) = parts
parts_in _ = []
