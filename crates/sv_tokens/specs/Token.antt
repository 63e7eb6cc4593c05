-- A page, as its tokens in document order (the tree order of the HTML and DOM standards): an element begins and ends, and a text and an anchor are one token each.
use Rattle.std.specs.Prelude.{is_none, ◌≢◌, ◌==◌, ◌&&◌, Bool, false, ℕ, List, [], ◌∷◌, ◌++◌, codes, Option, Some, None, if◌then◌else◌}
use Rattle.std.specs.List.{list_any}
use Rattle.std.specs.Str.{bytes_eq}
use Rattle.sv_tokens.specs.Counting.{Has}
use Rattle.sv_tokens.specs.declared.element.Attr.{Attr}
use Rattle.sv_tokens.specs.declared.element.Attr.TheVariants as attr
use Rattle.sv_tokens.specs.declared.element.Attribute.{Attribute}
use Rattle.sv_tokens.specs.declared.element.Typed.{Typed}

-- a node's key in its tree, and the serial number by which watchers know it
pub record Name : Type 0 where
  pub key : ℕ
  pub serial : ℕ

abbrev pub named : (key serial : ℕ) → Name
named key serial = record { key = key; serial = serial }

-- what an element shows of its own: its name, its attributes by slot, and what was typed over them
pub record Element : Type 0 where
  pub name : List ℕ
  pub attributes : List Attribute
  pub typed : Option Typed

-- A token names its node, and the first of a node also its parent and the node's printed number, if it has one. An anchor shows nothing and has no serial number. The page itself is the element with key 0 and serial number 0, which has no name.
pub data Token : Type 0 where
  Open : (node parent : Name) (number : Option ℕ) (element : Element) → Token
  Text : (node parent : Name) (number : Option ℕ) (bytes : List ℕ) → Token
  Anchor : (key : ℕ) (parent : Name) → Token
  Close : (node : Name) (name : List ℕ) → Token

-- the tokens, the next serial number and the next printed number
pub record Page : Type 0 where
  pub tokens : List Token
  pub next : ℕ
  pub number : ℕ

-- the token is the first of the node at that key
abbrev pub begins : ℕ → Token → Bool
begins key (Open n parent number element) = n.key == key
begins key (Text n parent number bytes) = n.key == key
begins key (Anchor n parent) = n == key
begins key (Close n name) = false

-- the token begins the element at that key
abbrev pub opens : ℕ → Token → Bool
opens key (Open n parent number element) = n.key == key
opens key (Text n parent number bytes) = false
opens key (Anchor n parent) = false
opens key (Close n name) = false

-- the token is the text at that key
abbrev pub texts : ℕ → Token → Bool
texts key (Open n parent number element) = false
texts key (Text n parent number bytes) = n.key == key
texts key (Anchor n parent) = false
texts key (Close n name) = false

-- the token is the anchor at that key
abbrev pub anchors : ℕ → Token → Bool
anchors key (Open n parent number element) = false
anchors key (Text n parent number bytes) = false
anchors key (Anchor n parent) = n == key
anchors key (Close n name) = false

-- the token ends the element at that key
abbrev pub closes : ℕ → Token → Bool
closes key (Open n parent number element) = false
closes key (Text n parent number bytes) = false
closes key (Anchor n parent) = false
closes key (Close n name) = n.key == key

-- the token is the first of a child of the node at the key `parent`
abbrev pub is_child : (parent key : ℕ) → Token → Bool
is_child parent key (Open n p number element) = (n.key == key) && (p.key == parent)
is_child parent key (Text n p number bytes) = (n.key == key) && (p.key == parent)
is_child parent key (Anchor n p) = (n == key) && (p.key == parent)
is_child parent key (Close n name) = false

-- the name of the node that the token belongs to; an anchor has no serial number of its own
abbrev pub node_of : Token → Name
node_of (Open n parent number element) = n
node_of (Text n parent number bytes) = n
node_of (Anchor key parent) = named key 0
node_of (Close n name) = n

-- the name of the parent of the node that the token begins
abbrev pub parent_of : Token → Name
parent_of (Open n parent number element) = parent
parent_of (Text n parent number bytes) = parent
parent_of (Anchor key parent) = parent
parent_of (Close n name) = n

-- the token begins an element or a text that has no printed number
abbrev pub lacks_number : Token → Bool
lacks_number (Open n parent number element) = is_none number
lacks_number (Text n parent number bytes) = is_none number
lacks_number (Anchor n parent) = false
lacks_number (Close n name) = false

-- the key of the first that passes
abbrev pub first_key : (Token → Bool) → List Token → Option ℕ
first_key p [] = None
first_key p (t ∷ ts) = if p t then Some (node_of t).key else first_key p ts

-- the name of the node at that key, where it stands
abbrev pub name_at : ℕ → List Token → Name
name_at key [] = named key 0
name_at key (t ∷ ts) = if begins key t then node_of t else name_at key ts

-- the name of the parent of the node at that key, where it stands
abbrev pub parent_at : ℕ → List Token → Name
parent_at key [] = named 0 0
parent_at key (t ∷ ts) = if begins key t then parent_of t else parent_at key ts

-- the value is that text
abbrev pub is_text : List ℕ → Attr → Bool
is_text bytes attr.Flag = false
is_text bytes (attr.Text text) = bytes_eq text bytes

-- the attribute `id` with that text
abbrev pub is_id : List ℕ → Attribute → Bool
is_id id attribute = bytes_eq attribute.name (codes "id") && is_text id attribute.value

-- the token begins an element that shows that id
abbrev pub identifies : List ℕ → Token → Bool
identifies id (Open n parent number element) = list_any (is_id id) element.attributes
identifies id (Text n parent number bytes) = false
identifies id (Anchor n parent) = false
identifies id (Close n name) = false

-- the tokens are those of the node at that key and of all below it
pub data IsSpan : ℕ → List Token → Type 0 where
  one_text : (key serial : ℕ) (parent : Name) (number : Option ℕ) (bytes : List ℕ) → IsSpan key (Text (named key serial) parent number bytes ∷ [])
  one_anchor : (key : ℕ) (parent : Name) → IsSpan key (Anchor key parent ∷ [])
  whole : (key serial : ℕ) (parent : Name) (number : Option ℕ) (element : Element) (inner : List Token) (name : List ℕ)
      → IsSpan key (Open (named key serial) parent number element ∷ (inner ++ (Close (named key serial) name ∷ [])))

-- the place before a child of the parent, or at its end
abbrev pub IsPlace : List Token → (parent : ℕ) (before : Option ℕ) → Type 0
IsPlace tokens parent None = Has (opens parent) tokens
IsPlace tokens parent (Some before) = Has (opens parent) tokens × Has (is_child parent before) tokens × (before ≢ 0)

-- the place before another child of the node's parent, or at that one's end
abbrev pub IsBeside : List Token → (node : ℕ) (before : Option ℕ) → Type 0
IsBeside tokens node None = Unit {0}
IsBeside tokens node (Some before) = (parent : ℕ) × Has (is_child parent node) tokens × Has (is_child parent before) tokens × (before ≢ 0) × (before ≢ node)
