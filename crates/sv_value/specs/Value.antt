-- The values of scripts as finite trees: the language types of ECMA-262, section 6.1, with stores, and without symbols,
-- big integers and fractions. Trees share nothing here.
use Rattle.std.specs.Prelude.{ℕ, suc, ◌+◌, max, ℤ, Bool, List, [], ◌∷◌, length}

mutual
  -- a text is its bytes in UTF-8; a function is its code, the number of its owner and the values that it captured; a store
  -- is its number
  pub data Val : Type 0 where
    undefined : Val
    null : Val
    boolean : Bool → Val
    number : ℤ → Val
    text : List ℕ → Val
    list : Vals → Val
    object : Fields → Val
    function : (code owner : ℕ) → (held : Vals) → Val
    store : ℕ → Val

  -- the items of a list, or what a function captured
  pub data Vals : Type 0 where
    none : Vals
    more : Val → Vals → Vals

  -- the fields of an object, each a key and a value
  pub data Fields : Type 0 where
    bare : Fields
    field : List ℕ → Val → Fields → Fields

-- these values
abbrev pub vals : List Val → Vals
vals [] = none
vals (v ∷ vs) = more v (vals vs)

-- the list of the values
abbrev pub items : Vals → List Val
items none = []
items (more v vs) = v ∷ items vs

-- these fields
abbrev pub fields : List (List ℕ × Val) → Fields
fields [] = bare
fields (e ∷ es) = field e.0 e.1 (fields es)

-- the list of the fields
abbrev pub entries : Fields → List (List ℕ × Val)
entries bare = []
entries (field k v fs) = (k, v) ∷ entries fs

-- how deep a value nests: 0 for a plain one and a store, else one more than its deepest part, or 1 where it has none
abbrev mutual
  pub depth : Val → ℕ
  depth undefined = 0
  depth null = 0
  depth (boolean b) = 0
  depth (number n) = 0
  depth (text t) = 0
  depth (list vs) = suc (depths vs)
  depth (object fs) = suc (field_depths fs)
  depth (function c o vs) = suc (depths vs)
  depth (store s) = 0

  -- the greatest depth of some values
  pub depths : Vals → ℕ
  depths none = 0
  depths (more v vs) = max (depth v) (depths vs)

  -- the greatest depth of some fields
  pub field_depths : Fields → ℕ
  field_depths bare = 0
  field_depths (field k v fs) = max (depth v) (field_depths fs)

-- how large a value is: 1 for each value in it, and 1 for each byte of a text and of a key
abbrev mutual
  pub size : Val → ℕ
  size undefined = 1
  size null = 1
  size (boolean b) = 1
  size (number n) = 1
  size (text t) = 1 + length t
  size (list vs) = 1 + sizes vs
  size (object fs) = 1 + field_sizes fs
  size (function c o vs) = 1 + sizes vs
  size (store s) = 1

  -- the size of some values together
  pub sizes : Vals → ℕ
  sizes none = 0
  sizes (more v vs) = size v + sizes vs

  -- the size of some fields together
  pub field_sizes : Fields → ℕ
  field_sizes bare = 0
  field_sizes (field k v fs) = length k + size v + field_sizes fs
