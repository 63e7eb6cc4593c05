-- What is seen of the nodes in a slab.
use Rattle.std.specs.Prelude.{ℕ, Bool, false, List, map, Option, option_map, slice_index_or, None}
use Rattle.std.specs.List.{list_any}
use Rattle.sv_tokens.specs.Token.{named, Element as Shape, is_id}
use Rattle.sv_nodes.specs.Nodes.{Kind, element, text, anchor, Cell, Nodes}
use Rattle.sv_nodes.specs.declared.entry.Element.{Element}
use Rattle.sv_nodes.specs.declared.entry.Content.{Content}
use Rattle.sv_nodes.specs.declared.entry.Content.TheVariants as contents
use Rattle.sv_nodes.specs.declared.entry.Entry.{Entry}

abbrev pub element_of : Element → Shape
element_of e = record { name = e.name; attributes = e.attributes.items; typed = e.typed }

abbrev pub kind_of : Content → Kind
kind_of (contents.Element e) = element (element_of e)
kind_of (contents.Text t) = text t
kind_of contents.Anchor = anchor

abbrev pub cell_of : Entry → Cell
cell_of entry = record { serial = entry.serial; parent = named entry.parent entry.above; number = entry.number; kind = kind_of entry.content; children = entry.children.items }

abbrev pub cells_of : List (Option Entry) → List (Option Cell)
cells_of slots = map (option_map cell_of) slots

abbrev pub nodes_of : List (Option Entry) → Nodes
nodes_of slots key = slice_index_or (cells_of slots) key None

-- whether the node shows that id
abbrev pub shows_id : List ℕ → Kind → Bool
shows_id id (element e) = list_any (is_id id) e.attributes
shows_id id (text bytes) = false
shows_id id anchor = false
