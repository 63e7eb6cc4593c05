-- Ways to the nodes of a page, by the marks of the elements round them.
use Rattle.std.specs.Prelude.{◌≡◌, ◌≤◌, ℕ, nat_eq, List, [], ◌∷◌, Option, Some}
use Rattle.std.specs.List.{AllByRecursion}
use Rattle.sv_document.specs.Marks.{marks}
use Rattle.sv_document.specs.declared.tree.Node.{Node}
use Rattle.sv_follow.specs.Followed.{Tree}
use Rattle.sv_live.specs.Kept.{IsNamed}
use Rattle.sv_live.specs.Known.{by_mark, known, text_node, element_node, inside}
use Rattle.sv_live.specs.declared.live.Live.{Live}
use Rattle.sv_live.specs.declared.live.Named.{Named}
use Rattle.sv_tokens.specs.Counting.{times}

-- the way to a text, to an element of a name, or to what is further inside of one
pub data Way : Type 0 where
  to_text : (mark : ℕ) → Way
  to_element : (mark : ℕ) (name : List ℕ) → Way
  through : (mark : ℕ) (name : List ℕ) (way : Way) → Way

-- the node at the end of a way
abbrev pub node_at : Way → List Live → Option Named
node_at (to_text mark) lives = text_node (known (by_mark mark) lives)
node_at (to_element mark name) lives = element_node name (known (by_mark mark) lives)
node_at (through mark name way) lives = node_at way (inside name (known (by_mark mark) lives))

-- the marks on a way
abbrev pub marks_on : Way → List ℕ
marks_on (to_text mark) = mark ∷ []
marks_on (to_element mark name) = mark ∷ []
marks_on (through mark name way) = mark ∷ marks_on way

-- no two of the nodes have the mark
abbrev pub IsSingle : List Node → ℕ → Type 0
IsSingle nodes mark = times (nat_eq mark) (marks nodes) ≤ 1

-- nor a mark on the way
abbrev pub IsClear : Way → List Node → Type 0
IsClear way nodes = AllByRecursion (IsSingle nodes) (marks_on way)

-- The node at the end of a way is the one that was at its end before, or a new one, with a serial number that none had.
abbrev pub KeepsNodes : (old : Tree) (nodes : List Node) (new : Tree) → Type 0
KeepsNodes old nodes new = (way : Way) (n : Named) → IsClear way nodes → node_at way new.lives ≡ Some n → IsNamed old.page.next (node_at way old.lives) n
