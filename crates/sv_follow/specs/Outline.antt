-- What nodes of a document ask a page to show.
use Rattle.std.specs.Prelude.{List, map}
use Rattle.sv_document.specs.Element.{Element}
use Rattle.sv_document.specs.declared.tree.Node.{Node, Node-F, fold-Node}
use Rattle.sv_live.specs.Attributes.{by_slot}
use Rattle.sv_live.specs.declared.node.Node.{Node as Wanted}
use Rattle.sv_live.specs.declared.node.Node.TheVariants as wanted
use Rattle.sv_live.specs.declared.node.Own.{Own}

-- what an element shows of its own, with the mark that it has
abbrev pub own_of : Element → Own
own_of e = record { mark = e.mark; name = e.name; attributes = by_slot e.attributes; typed = e.typed }

abbrev pub outlined : Node-F Wanted → Wanted
outlined (Node-F.Element element children) = wanted.Element (own_of element) children
outlined (Node-F.Text mark text) = wanted.Text mark text

-- a node and all that is in it
abbrev pub outline_one : Node → Wanted
outline_one = fold-Node Wanted outlined

-- nodes beside one another
abbrev pub outline : List Node → List Wanted
outline nodes = map outline_one nodes
