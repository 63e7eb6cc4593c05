-- When nodes under keys are a page.
use Rattle.std.specs.Prelude.{◌≡◌, ◌≢◌, ℕ, ◌+◌, ◌≤◌, ◌<◌, List, [], ◌∷◌, true, Option, Some, None, ◌⊎◌}
use Rattle.sv_tokens.specs.Counting.{times, Has}
use Rattle.sv_tokens.specs.Token.{Name, begins}
use Rattle.sv_nodes.specs.Nodes.{Kind, element, text, anchor, Cell, Nodes, name_of, levels, tokens_of, weight, is_element}

-- the node is there, a child of that parent, and was made after it
pub record IsPart (nodes : Nodes) (parent : Name) (key : ℕ) : Type 0 where
  pub cell : Cell
  pub at : nodes key ≡ Some cell
  pub above : cell.parent ≡ parent
  pub later : parent.serial < cell.serial

abbrev pub AreParts : Nodes → Name → List ℕ → Type 0
AreParts nodes parent [] = Unit {0}
AreParts nodes parent (key ∷ keys) = IsPart nodes parent key × AreParts nodes parent keys

-- only an element has children
abbrev pub IsProper : Kind → List ℕ → Type 0
IsProper (element e) children = Unit {0}
IsProper (text bytes) children = children ≡ []
IsProper anchor children = children ≡ []

-- the page itself, an element, the first node
pub record HasPage (nodes : Nodes) : Type 0 where
  pub cell : Cell
  pub at : nodes 0 ≡ Some cell
  pub first : cell.serial ≡ 0
  pub shape : is_element cell.kind ≡ true

abbrev pub IsAmong : ℕ → List ℕ → Type 0
IsAmong x [] = ⊥
IsAmong x (k ∷ ks) = (k ≡ x) ⊎ IsAmong x ks

-- the place is among the children
abbrev pub IsAt : Option ℕ → List ℕ → Type 0
IsAt None children = Unit {0}
IsAt (Some key) children = IsAmong key children

-- the node is a child of that parent, which is there
pub record Link (nodes : Nodes) (parent key : ℕ) : Type 0 where
  pub cell : Cell
  pub at : nodes parent ≡ Some cell
  pub among : IsAmong key cell.children

-- The page stands at key 0. Each node was made before its children, which are there, and is a child of its parent. Each stands in the page, and none twice.
pub record IsSound (nodes : Nodes) (next : ℕ) : Type 0 where
  pub root : HasPage nodes
  pub bounded : next < levels
  pub below : (key : ℕ) (cell : Cell) → nodes key ≡ Some cell → cell.serial + weight cell.kind ≤ next
  pub parts : (key : ℕ) (cell : Cell) → nodes key ≡ Some cell → AreParts nodes (name_of key cell) cell.children
  pub proper : (key : ℕ) (cell : Cell) → nodes key ≡ Some cell → IsProper cell.kind cell.children
  pub linked : (key : ℕ) (cell : Cell) → nodes key ≡ Some cell → key ≢ 0 → Link nodes cell.parent.key key
  pub once : (key : ℕ) → times (begins key) (tokens_of nodes) ≤ 1
  pub stands : (key : ℕ) (cell : Cell) → nodes key ≡ Some cell → Has (begins key) (tokens_of nodes)
