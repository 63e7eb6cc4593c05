-- Single steps on nodes under keys: one is rewritten, one comes, one without children goes.
use Rattle.std.specs.Prelude.{◌≡◌, ◌≢◌, ℕ, List, [], ◌∷◌, ◌++◌, Option, Some, None, option_map, ◌≤◌, length, drop, insert, remove}
use Rattle.sv_tokens.specs.Counting.{Has}
use Rattle.sv_tokens.specs.Token.{Token, begins, IsSpan}
use Rattle.sv_nodes.specs.Nodes.{Kind, Cell, Nodes, name_of, leaf, with_children, tokens_of}
use Rattle.sv_nodes.specs.Sound.{IsSound}

-- what stands at a key was rewritten, and nothing else
pub record Rewrites (old new : Nodes) (key : ℕ) (f : Cell → Cell) : Type 0 where
  pub here : new key ≡ option_map f (old key)
  pub others : (k : ℕ) → k ≢ key → new k ≡ old k

-- what follows the place among the children of a node
abbrev pub IsBack : Option ℕ → List ℕ → Type 0
IsBack None back = back ≡ []
IsBack (Some node) [] = ⊥
IsBack (Some node) (k ∷ ks) = k ≡ node

-- the place among the children, counted from the front
pub record IsStart (before : Option ℕ) (at : ℕ) (children : List ℕ) : Type 0 where
  pub inside : at ≤ length children
  pub back : IsBack before (drop at children)

-- one more child, at that place
pub record Grows (key at : ℕ) (old new : List ℕ) : Type 0 where
  pub front : List ℕ
  pub back : List ℕ
  pub was : old ≡ front ++ back
  pub now : new ≡ front ++ (key ∷ back)
  pub from : back ≡ drop at old

-- one child less
pub record Cuts (key : ℕ) (old new : List ℕ) : Type 0 where
  pub front : List ℕ
  pub back : List ℕ
  pub was : old ≡ front ++ (key ∷ back)
  pub now : new ≡ front ++ back

-- the child at a place was put before another one, or at the end
pub record Reorders (key from to : ℕ) (before : Option ℕ) (old new : List ℕ) : Type 0 where
  pub child : IsStart (Some key) from old
  pub place : IsStart before to (remove old from)
  pub is : new ≡ insert (remove old from) to key

-- the last child, or that there is none
abbrev pub IsLast : List ℕ → Option ℕ → Type 0
IsLast xs None = xs ≡ []
IsLast xs (Some key) = (front : List ℕ) × (xs ≡ front ++ (key ∷ []))

-- a node was made at a vacant key, a child of its parent
pub record Adds (old new : Nodes) (parent key at : ℕ) (serial : ℕ) (kind : Kind) : Type 0 where
  pub vacant : old key ≡ None
  pub cell : Cell
  pub was : old parent ≡ Some cell
  pub grown : List ℕ
  pub is : new parent ≡ Some (with_children cell grown)
  pub grows : Grows key at cell.children grown
  pub made : new key ≡ Some (leaf serial (name_of parent cell) kind)
  pub others : (k : ℕ) → k ≢ key → k ≢ parent → new k ≡ old k

-- a node with no children is gone, and its parent has one child less
pub record Drops (old new : Nodes) (key : ℕ) : Type 0 where
  pub cell : Cell
  pub was : old key ≡ Some cell
  pub bare : cell.children ≡ []
  pub above : Cell
  pub holder : old cell.parent.key ≡ Some above
  pub front : List ℕ
  pub back : List ℕ
  pub children : above.children ≡ front ++ (key ∷ back)
  pub now : new cell.parent.key ≡ Some (with_children above (front ++ back))
  pub gone : new key ≡ None
  pub others : (k : ℕ) → k ≢ key → k ≢ cell.parent.key → new k ≡ old k

-- each node that is there was there, with the same serial number
pub record Keeps (old new : Nodes) : Type 0 where
  pub same : (key : ℕ) (cell : Cell) → new key ≡ Some cell → (before : Cell) × (old key ≡ Some before) × (cell.serial ≡ before.serial)

-- part of the way: some of what stands below the node is gone
pub record Loses (old new : Nodes) (next key : ℕ) : Type 0 where
  pub sound : IsSound new next
  pub spans : (pre own post : List Token) → IsSpan key own → tokens_of old ≡ pre ++ (own ++ post) → (left : List Token) × IsSpan key left × (tokens_of new ≡ pre ++ (left ++ post))
  pub keeps : Keeps old new
  pub stays : Has (begins key) (tokens_of new)
