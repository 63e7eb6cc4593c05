-- By which number one is known among those beside it, and which one is known by a number.
use Rattle.std.specs.Prelude.{◌+◌, ◌*◌, ◌==◌, Bool, false, ℕ, List, [], ◌∷◌, Option, Some, None, if◌then◌else◌}
use Rattle.std.specs.Str.{bytes_eq}
use Rattle.sv_live.specs.declared.live.Named.{Named}
use Rattle.sv_live.specs.declared.live.Live.{Live, Live-F, out-Live}
use Rattle.sv_live.specs.declared.node.Node.{Node, Node-F, out-Node}

-- the number of a mark, and that of a place: no mark has that of a place
abbrev pub by_mark : ℕ → ℕ
by_mark mark = 2 * mark

abbrev pub by_place : ℕ → ℕ
by_place place = 2 * place + 1

abbrev pub number_in : Live-F Live → ℕ
number_in (Live-F.Text mark n text) = by_mark mark
number_in (Live-F.Element n own parts) = by_mark own.mark
number_in (Live-F.Hole place anchor parts) = by_place place

abbrev pub number : Live → ℕ
number live = number_in (out-Live live)

-- one is known by that number
abbrev pub answers : ℕ → Live → Bool
answers n live = number live == n

abbrev pub asks_in : ℕ → Node-F Node → Bool
asks_in n (Node-F.Text mark text) = by_mark mark == n
asks_in n (Node-F.Element own parts) = by_mark own.mark == n
asks_in n (Node-F.Hole place) = by_place place == n
asks_in n (Node-F.Block parts) = false

-- one is to be shown that is known by that number
abbrev pub asks : ℕ → Node → Bool
asks n node = asks_in n (out-Node node)

-- the first, or else the second
abbrev pub or_else : Option Live → Option Live → Option Live
or_else None other = other
or_else (Some live) other = Some live

-- the last one that is known by that number
abbrev pub known : ℕ → List Live → Option Live
known n [] = None
known n (live ∷ lives) = or_else (known n lives) (if answers n live then Some live else None)

-- the node of a text
abbrev pub text_node_in : Live-F Live → Option Named
text_node_in (Live-F.Text mark n text) = Some n
text_node_in (Live-F.Element n own parts) = None
text_node_in (Live-F.Hole place anchor parts) = None

abbrev pub text_node : Option Live → Option Named
text_node None = None
text_node (Some live) = text_node_in (out-Live live)

-- the node of an element with that name
abbrev pub element_node_in : List ℕ → Live-F Live → Option Named
element_node_in name (Live-F.Text mark n text) = None
element_node_in name (Live-F.Element n own parts) = if bytes_eq own.name name then Some n else None
element_node_in name (Live-F.Hole place anchor parts) = None

abbrev pub element_node : List ℕ → Option Live → Option Named
element_node name None = None
element_node name (Some live) = element_node_in name (out-Live live)

-- what is shown in an element with that name
abbrev pub inside_in : List ℕ → Live-F Live → List Live
inside_in name (Live-F.Text mark n text) = []
inside_in name (Live-F.Element n own parts) = if bytes_eq own.name name then parts else []
inside_in name (Live-F.Hole place anchor parts) = []

abbrev pub inside : List ℕ → Option Live → List Live
inside name None = []
inside name (Some live) = inside_in name (out-Live live)

-- the node that marks the place of a child component, and what the child shows
pub record Seat : Type 0 where
  pub anchor : ℕ
  pub parts : List Live

abbrev pub seat_in : Live-F Live → Option Seat
seat_in (Live-F.Text mark n text) = None
seat_in (Live-F.Element n own parts) = None
seat_in (Live-F.Hole place anchor parts) = Some (record { anchor = anchor; parts = parts })

abbrev pub seat : Option Live → Option Seat
seat None = None
seat (Some live) = seat_in (out-Live live)
