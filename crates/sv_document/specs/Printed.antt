-- The text of a page, node by node.
use Rattle.std.specs.Prelude.{ℕ, List, [], ◌∷◌, ◌++◌, map, Option, None, Some}
use Rattle.sv_html.specs.Html.{start_html, end_html, numbered_text_html}
use Rattle.sv_document.specs.Numbers.{Numbers, number_of}
use Rattle.sv_document.specs.declared.tree.Node.{Node, Node-F, fold-Node}
use Rattle.sv_document.specs.Shown.{shape_of}

-- texts one after another
abbrev pub joined : List (List ℕ) → List ℕ
joined [] = []
joined (text ∷ more) = text ++ joined more

-- the number that is printed of a node by its mark, where numbers are asked for
abbrev pub number_in : Option Numbers → ℕ → Option ℕ
number_in None mark = None
number_in (Some numbers) mark = number_of numbers mark

-- an element is its tag, its children and what ends it
abbrev pub form_html : Option Numbers → Node-F (List ℕ) → List ℕ
form_html numbers (Node-F.Element element children) = start_html (number_in numbers element.mark) (shape_of element) ++ (joined children ++ end_html element.name)
form_html numbers (Node-F.Text mark text) = numbered_text_html (number_in numbers mark) text

-- a node
abbrev pub node_html : Option Numbers → Node → List ℕ
node_html numbers = fold-Node (List ℕ) (form_html numbers)

-- the text of nodes; with numbers, that of each node that has one is shown
abbrev pub html : (numbers : Option Numbers) → List Node → List ℕ
html numbers nodes = joined (map (node_html numbers) nodes)
