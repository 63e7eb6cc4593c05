-- The search for a selector through nodes, from what is known of its links.
use Rattle.std.specs.Prelude.{false, List, [], ◌∷◌, ◌++◌, map}
use Rattle.std.specs.Prelude.{ℕ}
use Rattle.sv_document.specs.Printed.{joined}
use Rattle.sv_document.specs.declared.tree.Node.{Node, Node-F, fold-Node}
use Rattle.sv_select.specs.Matching.{Found, own}
use Rattle.sv_select.specs.Reach.{entered, ends}
use Rattle.sv_select.specs.declared.reach.Reach.{Reach}
use Rattle.sv_select.specs.declared.selector.Link.{Link}

-- what a node shows as text, and what is found from it on
pub record Spot : Type 0 where
  pub text : List ℕ
  pub found : List Reach → List Found

abbrev pub texts : List Spot → List ℕ
texts spots = joined (map (λ s. s.text) spots)

abbrev pub each : List Reach → List Spot → List Found
each reached [] = []
each reached (s ∷ spots) = s.found reached ++ each reached spots

abbrev pub form : List Link → Node-F Spot → Spot
form links (Node-F.Element e children) =
    record { text = texts children; found = λ outer. own (ends false links e outer) e (texts children) ++ each (entered false links e outer) children }
form links (Node-F.Text mark text) = record { text = text; found = λ outer. [] }

abbrev pub spot : List Link → Node → Spot
spot links = fold-Node Spot (form links)

-- what is found from a node on
abbrev pub found_from : List Link → List Reach → Node → List Found
found_from links reached node = (spot links node).found reached

-- and from nodes on
abbrev pub found_in : List Link → List Reach → List Node → List Found
found_in links reached nodes = each reached (map (spot links) nodes)
