-- Texts of nodes.
use Rattle.std.specs.Prelude.{ℕ, List, map}
use Rattle.sv_document.specs.Printed.{joined}
use Rattle.sv_document.specs.declared.tree.Node.{Node, Node-F, fold-Node}

-- the texts below an element, joined in document order
abbrev pub form_text : Node-F (List ℕ) → List ℕ
form_text (Node-F.Element e children) = joined children
form_text (Node-F.Text mark text) = text

abbrev pub node_text : Node → List ℕ
node_text = fold-Node (List ℕ) form_text

-- those of nodes and of all below them
abbrev pub text_in : List Node → List ℕ
text_in nodes = joined (map node_text nodes)
