-- The marks of nodes.
use Rattle.std.specs.Prelude.{ℕ, List, [], ◌∷◌, ◌++◌, map}
use Rattle.sv_document.specs.declared.tree.Node.{Node, Node-F, fold-Node}

abbrev pub joined : List (List ℕ) → List ℕ
joined [] = []
joined (marks ∷ more) = marks ++ joined more

-- an element comes before what is in it
abbrev pub form_marks : Node-F (List ℕ) → List ℕ
form_marks (Node-F.Element element children) = element.mark ∷ joined children
form_marks (Node-F.Text mark text) = mark ∷ []

abbrev pub node_marks : Node → List ℕ
node_marks = fold-Node (List ℕ) form_marks

-- those of nodes and of all below them, in document order
abbrev pub marks : List Node → List ℕ
marks nodes = joined (map node_marks nodes)
