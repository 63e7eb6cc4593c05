-- The tokens of what is shown, and what is shown as what was to be shown.
use Rattle.std.specs.Prelude.{ℕ, List, [], ◌∷◌, ◌++◌, map, Option}
use Rattle.sv_tokens.specs.Token.{Name, named, Element, Token, Open, Text, Anchor, Close}
use Rattle.sv_live.specs.declared.live.Named.{Named}
use Rattle.sv_live.specs.declared.live.Live.{Live, Live-F, fold-Live}
use Rattle.sv_live.specs.declared.node.Own.{Own}
use Rattle.sv_live.specs.declared.node.Node.{Node, Node-F, fold-Node}
use Rattle.sv_live.specs.declared.node.Node.TheVariants as node

abbrev pub name_of : Named → Name
name_of n = named n.key n.serial

abbrev pub element_of : Own → Element
element_of own = record { name = own.name; attributes = own.attributes; typed = own.typed }

-- tokens under a parent
abbrev pub Drawn : Type 0
Drawn = Name → List Token

abbrev pub joined : List Drawn → Drawn
joined [] above = []
joined (f ∷ fs) above = f above ++ joined fs above

-- printed numbers by serial number
abbrev pub Numbers : Type 0
Numbers = ℕ → Option ℕ

abbrev pub draw : Numbers → Live-F Drawn → Drawn
draw numbers (Live-F.Text mark n text) above = Text (name_of n) above (numbers n.serial) text ∷ []
draw numbers (Live-F.Element n own parts) above = Open (name_of n) above (numbers n.serial) (element_of own) ∷ (joined parts (name_of n) ++ (Close (name_of n) own.name ∷ []))
draw numbers (Live-F.Hole place anchor parts) above = joined parts above ++ (Anchor anchor above ∷ [])

-- the tokens of a node and all below it
unfoldable pub drawn : Numbers → Live → Drawn
drawn numbers = fold-Live Drawn (draw numbers)

-- those of nodes beside one another
unfoldable pub drawn_all : Numbers → List Live → Drawn
drawn_all numbers lives = joined (map (drawn numbers) lives)

-- the key of the first node
abbrev pub first_or : ℕ → List ℕ → ℕ
first_or key [] = key
first_or key (x ∷ xs) = x

abbrev pub lead_in : Live-F ℕ → ℕ
lead_in (Live-F.Text mark n text) = n.key
lead_in (Live-F.Element n own parts) = n.key
lead_in (Live-F.Hole place anchor parts) = first_or anchor parts

unfoldable pub lead : Live → ℕ
lead = fold-Live ℕ lead_in

-- what is shown, where that below is known
abbrev pub plain : Live-F Node → Node
plain (Live-F.Text mark n text) = node.Text mark text
plain (Live-F.Element n own parts) = node.Element own parts
plain (Live-F.Hole place anchor parts) = node.Hole place

-- what is shown, without the nodes of the page
unfoldable pub plainly : Live → Node
plainly = fold-Live Node plain

unfoldable pub plainly_all : List Live → List Node
plainly_all = map plainly

abbrev pub all_of : List (List Node) → List Node
all_of [] = []
all_of (ns ∷ rest) = ns ++ all_of rest

abbrev pub opened : Node-F (List Node) → List Node
opened (Node-F.Text mark text) = node.Text mark text ∷ []
opened (Node-F.Element own parts) = node.Element own (all_of parts) ∷ []
opened (Node-F.Hole place) = node.Hole place ∷ []
opened (Node-F.Block parts) = all_of parts

-- what is to be shown, with its blocks opened
unfoldable pub flat : Node → List Node
flat = fold-Node (List Node) opened

unfoldable pub flat_all : List Node → List Node
flat_all nodes = all_of (map flat nodes)
