-- Nodes under keys, and the tokens that they show.
use Rattle.std.specs.Prelude.{ℕ, zero, suc, ◌^◌, List, [], ◌∷◌, ◌++◌, Bool, true, false, Option, Some, None, option_map, unwrap_or, if◌then◌else◌}
use Rattle.sv_tokens.specs.Token.{Name, named, Element, Token, Open, Text, Anchor, Close}

-- what a node is
pub data Kind : Type 0 where
  element : Element → Kind
  text : List ℕ → Kind
  anchor : Kind

-- what is kept of a node: an anchor has no printed number, and only an element has children
pub record Cell : Type 0 where
  pub serial : ℕ
  pub parent : Name
  pub number : Option ℕ
  pub kind : Kind
  pub children : List ℕ

-- the node at each key, if there is one
abbrev pub Nodes : Type 0
Nodes = ℕ → Option Cell

-- the name of the node at that key
abbrev pub name_of : ℕ → Cell → Name
name_of key cell = named key cell.serial

-- the first token of a node
abbrev pub opening : (node parent : Name) (number : Option ℕ) → Kind → Token
opening node parent number (element e) = Open node parent number e
opening node parent number (text bytes) = Text node parent number bytes
opening node parent number anchor = Anchor node.key parent

-- the tokens behind a node's children
abbrev pub ending : Name → Kind → List Token
ending node (element e) = Close node e.name ∷ []
ending node (text bytes) = []
ending node anchor = []

abbrev pub start : ℕ → Cell → Token
start key cell = opening (name_of key cell) cell.parent cell.number cell.kind

abbrev pub finish : ℕ → Cell → List Token
finish key cell = ending (name_of key cell) cell.kind

-- the tokens of one node, where those of a list of children are known
abbrev pub node_tokens : (List ℕ → List Token) → ℕ → Option Cell → List Token
node_tokens below key None = []
node_tokens below key (Some cell) = start key cell ∷ (below cell.children ++ finish key cell)

-- the tokens of a list of nodes, where those of a list of children are known
abbrev pub walk_each : (List ℕ → List Token) → Nodes → List ℕ → List Token
walk_each below nodes [] = []
walk_each below nodes (key ∷ keys) = node_tokens below key (nodes key) ++ walk_each below nodes keys

-- the tokens of these nodes and of all below them, so many levels deep
unfoldable pub walk : ℕ → Nodes → List ℕ → List Token
walk zero nodes keys = []
walk (suc depth) nodes keys = walk_each (walk depth nodes) nodes keys

-- more than there are levels in any page
unfoldable pub levels : ℕ
levels = 2 ^ 64

-- the page stands at key 0
abbrev pub tokens_of : Nodes → List Token
tokens_of nodes = walk levels nodes (0 ∷ [])

-- how many serial numbers a node takes
abbrev pub weight : Kind → ℕ
weight (element e) = 1
weight (text bytes) = 1
weight anchor = 0

abbrev pub is_element : Kind → Bool
is_element (element e) = true
is_element (text bytes) = false
is_element anchor = false

abbrev pub is_anchor : Kind → Bool
is_anchor (element e) = false
is_anchor (text bytes) = false
is_anchor anchor = true

-- a new node with no children
abbrev pub leaf : (serial : ℕ) (parent : Name) → Kind → Cell
leaf serial parent kind = record { serial = serial; parent = parent; number = None; kind = kind; children = [] }

-- a text with other bytes
abbrev pub retext : List ℕ → Kind → Kind
retext bytes (element e) = element e
retext bytes (text was) = text bytes
retext bytes anchor = anchor

-- an element that shows another of its own
abbrev pub reshape : (Element → Element) → Kind → Kind
reshape f (element e) = element (f e)
reshape f (text bytes) = text bytes
reshape f anchor = anchor

-- a node that is another
abbrev pub with_kind : (Kind → Kind) → Cell → Cell
with_kind f cell = record cell { kind = f cell.kind }

-- a node with these children
abbrev pub with_children : Cell → List ℕ → Cell
with_children cell children = record cell { children = children }

-- a node with this printed number
abbrev pub with_number : ℕ → Cell → Cell
with_number number cell = record cell { number = Some number }

-- the serial number of the node at that key; 0 where there is none
abbrev pub serial_at : Nodes → ℕ → ℕ
serial_at nodes key = unwrap_or (option_map (λ cell. cell.serial) (nodes key)) 0

-- the serial number of a node that is seen, or else another
abbrev pub shown_or : Option Cell → ℕ → ℕ
shown_or None other = other
shown_or (Some cell) other = if is_anchor cell.kind then other else cell.serial

-- the serial number of the first that is no anchor; 0 where there is none
abbrev pub first_shown : Nodes → List ℕ → ℕ
first_shown nodes [] = 0
first_shown nodes (key ∷ keys) = shown_or (nodes key) (first_shown nodes keys)
