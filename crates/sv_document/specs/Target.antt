-- The element that an event goes to, and those round it.
use Rattle.std.specs.Prelude.{ℕ, zero, suc, List, [], ◌∷◌, ◌++◌, Option, None, Some, map, option_map, if◌then◌else◌}
use Rattle.std.specs.List.{list_any}
use Rattle.std.specs.Option.{option_or}
use Rattle.sv_tokens.specs.Token.{is_id}
use Rattle.sv_document.specs.Element.{Element}
use Rattle.sv_document.specs.declared.tree.Node.{Node, Node-F, fold-Node, out-Node}

-- elements, each inside the next
abbrev pub Path : Type 0
Path = List Element

-- the first that is there
abbrev pub first_of : List (Option Path) → Option Path
first_of [] = None
first_of (found ∷ more) = option_or found (first_of more)

-- what is found in an element is inside it
abbrev pub within : Element → Option Path → Option Path
within element found = option_map (λ path. path ++ element ∷ []) found

-- the element itself comes before those inside it
abbrev pub in_form : (id : List ℕ) → Node-F (Option Path) → Option Path
in_form id (Node-F.Element element children) = if list_any (is_id id) element.attributes then Some (element ∷ []) else within element (first_of children)
in_form id (Node-F.Text mark text) = None

-- the path to the first element in a node
abbrev pub in_node : (id : List ℕ) → Node → Option Path
in_node id = fold-Node (Option Path) (in_form id)

-- The first element in document order that shows an `id`, and then each one round it, to the outermost.
abbrev pub target : (id : List ℕ) → List Node → Option Path
target id nodes = first_of (map (in_node id) nodes)

-- ---- by places

-- an element and its children, at a place among elements, counted from 0; texts don't count
abbrev pub picked : ℕ → Node-F Node → (ℕ → Option (Element × List Node)) → Option (Element × List Node)
picked zero (Node-F.Element element children) more = Some (element, children)
picked (suc place) (Node-F.Element element children) more = more place
picked place (Node-F.Text mark text) more = more place

abbrev pub element_at : ℕ → List Node → Option (Element × List Node)
element_at place [] = None
element_at place (node ∷ nodes) = picked place (out-Node node) (λ left. element_at left nodes)

-- what is found at the further places, inside the element
abbrev pub further : (List Node → Option Path) → List ℕ → Option (Element × List Node) → Option Path
further inside places None = None
further inside [] (Some found) = Some (found.0 ∷ [])
further inside (place ∷ places) (Some found) = within found.0 (inside found.1)

-- The element at some places: the first is one among these elements, each further one among the element children of the one before. Then
-- comes each one round it, to the outermost.
abbrev pub at_places : List ℕ → List Node → Option Path
at_places [] nodes = None
at_places (place ∷ places) nodes = further (at_places places) places (element_at place nodes)
