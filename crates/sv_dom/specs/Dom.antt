-- A page tree, seen as a page.
use Rattle.std.specs.Prelude.{◌≤◌, ◌+◌, ◌==◌, ℕ, [], ◌∷◌, Option, Some, None, option_map, if◌then◌else◌}
use Rattle.sv_tokens.specs.Counting.{times}
use Rattle.sv_tokens.specs.Token.{named, Open, Close, Page, lacks_number}
use Rattle.sv_tokens.specs.Seen.{seen, IsNumbered}
use Rattle.sv_tokens.specs.Replay.{bare}
use Rattle.sv_tokens.specs.declared.change.What.{What}
use Rattle.sv_tokens.specs.declared.change.What.TheVariants as what
use Rattle.sv_nodes.specs.Nodes.{Kind, element, text, Cell, Nodes, tokens_of, is_anchor}
use Rattle.sv_nodes.specs.Sound.{IsSound}
use Rattle.sv_tokens.specs.declared.change.Change.{Change}
use Rattle.sv_tokens.specs.declared.change.Change.TheVariants.{Move, Remove}
use Rattle.sv_dom.specs.declared.Node.{Node}

-- the page that nodes under keys show
abbrev pub page_of : Nodes → ℕ → ℕ → Page
page_of nodes next number = record { tokens = tokens_of nodes; next = next; number = number }

-- The nodes are a page, with serial numbers below the next one. There are serial numbers enough for the printed numbers that are still to be given.
pub record IsDom (nodes : Nodes) (next number : ℕ) : Type 0 where
  pub sound : IsSound nodes next
  pub numbered : IsNumbered (seen (tokens_of nodes)) next
  pub counted : number + times lacks_number (tokens_of nodes) ≤ next

-- the page with nothing on it
abbrev pub empty_page : Page
empty_page = record { tokens = Open (named 0 0) (named 0 0) (Some 0) (bare []) ∷ Close (named 0 0) [] ∷ []; next = 1; number = 1 }

-- the key of a node, if there is one
abbrev pub key_in : Option Node → Option ℕ
key_in node = option_map (λ (n : Node). n.0) node

-- the kind of a new node
abbrev pub kind_of_what : What → Kind
kind_of_what (what.Element name) = element (bare name)
kind_of_what (what.Text bytes) = text bytes

-- what is told where a node goes: nothing of an anchor
abbrev pub removal : Cell → Option Change
removal cell = if is_anchor cell.kind then None else Some (Remove cell.serial)

-- what is told where a node goes elsewhere: nothing of an anchor, nor where the next sibling that is seen stays the same
abbrev pub relocation : Cell → (earlier later : ℕ) → Option Change
relocation cell earlier later = if is_anchor cell.kind then None else (if earlier == later then None else Some (Move cell.serial later))
