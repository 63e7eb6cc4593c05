-- Printed numbers of nodes.
use Rattle.std.specs.Prelude.{is_none, option_map, ◌≡◌, ◌+◌, Bool, false, ℕ, [], ◌∷◌, Option, None, if◌then◌else◌}
use Rattle.sv_tokens.specs.Counting.{times}
use Rattle.sv_tokens.specs.Token.{begins, lacks_number}
use Rattle.sv_tokens.specs.Numbering.{numbered}
use Rattle.sv_nodes.specs.Nodes.{Kind, element, text, anchor, Cell, Nodes, walk, levels, with_number}

-- a node of that kind with that printed number has none, and could have one
abbrev pub lacks : Option ℕ → Kind → Bool
lacks number (element e) = is_none number
lacks number (text bytes) = is_none number
lacks number anchor = false

-- the node with that printed number, where it lacks one
abbrev pub given : ℕ → Cell → Cell
given number cell = if lacks cell.number cell.kind then with_number number cell else cell

-- the node without its printed number
abbrev pub plain : Cell → Cell
plain cell = record cell { number = None }

-- the nodes without their printed numbers
abbrev pub unnumbered : Nodes → Nodes
unnumbered nodes key = option_map plain (nodes key)

-- The tokens of a node and of all below it have printed numbers, each that lacked one the next, up to another number. Nothing else of the nodes changed.
pub record Numbers (old new : Nodes) (key number next : ℕ) : Type 0 where
  pub tokens : walk levels new (key ∷ []) ≡ numbered number (walk levels old (key ∷ []))
  pub after : next ≡ number + times lacks_number (walk levels old (key ∷ []))
  pub others : (k : ℕ) → times (begins k) (walk levels old (key ∷ [])) ≡ 0 → new k ≡ old k
  pub same : unnumbered new ≡ unnumbered old
