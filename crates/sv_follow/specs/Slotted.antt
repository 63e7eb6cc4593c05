-- Nodes whose attributes stand by slot.
use Rattle.std.specs.Prelude.{List, [], ◌∷◌, ◌++◌, map}
use Rattle.std.specs.List.{AllByRecursion}
use Rattle.sv_document.specs.declared.tree.Node.{Node, Node-F, fold-Node}
use Rattle.sv_live.specs.Attributes.{IsAscending}
use Rattle.sv_tokens.specs.declared.element.Attribute.{Attribute}

-- the attributes of elements, element by element
abbrev pub Worn : Type 0
Worn = List (List Attribute)

abbrev pub all_worn : List Worn → Worn
all_worn [] = []
all_worn (worn ∷ more) = worn ++ all_worn more

abbrev pub worn_in : Node-F Worn → Worn
worn_in (Node-F.Element element children) = element.attributes ∷ all_worn children
worn_in (Node-F.Text mark text) = []

-- those of a node and of all in it
abbrev pub worn_by : Node → Worn
worn_by = fold-Node Worn worn_in

-- those of nodes and of all in them, in document order
abbrev pub worn : List Node → Worn
worn nodes = all_worn (map worn_by nodes)

-- the slots of each element ascend
abbrev pub AreSlotted : List Node → Type 0
AreSlotted nodes = AllByRecursion IsAscending (worn nodes)
