-- A page as its watchers see it: with no anchors and no printed numbers, its nodes named by serial number. Serial number 0 is the page, and as a place the end of the parent's children.
use Rattle.std.specs.Prelude.{◌≡◌, ◌≤◌, ◌==◌, ◌&&◌, Bool, false, ℕ, zero, suc, List, [], ◌∷◌}
use Rattle.sv_tokens.specs.Counting.{times}
use Rattle.sv_tokens.specs.Token.{Element, Token, Open, Text, Anchor, Close, Page}

pub data Seen : Type 0 where
  Start : (serial parent : ℕ) (element : Element) → Seen
  Words : (serial parent : ℕ) (bytes : List ℕ) → Seen
  End : (serial : ℕ) (name : List ℕ) → Seen

-- what is seen, and the next serial number
pub record View : Type 0 where
  pub tokens : List Seen
  pub next : ℕ

-- what is seen of the tokens
abbrev pub seen : List Token → List Seen
seen [] = []
seen (Open node parent number element ∷ ts) = Start node.serial parent.serial element ∷ seen ts
seen (Text node parent number bytes ∷ ts) = Words node.serial parent.serial bytes ∷ seen ts
seen (Anchor key parent ∷ ts) = seen ts
seen (Close node name ∷ ts) = End node.serial name ∷ seen ts

-- what is seen of the page
abbrev pub view_of : Page → View
view_of page = record { tokens = seen page.tokens; next = page.next }

-- the token is the first of that node
abbrev pub starts : ℕ → Seen → Bool
starts serial (Start n parent element) = n == serial
starts serial (Words n parent bytes) = n == serial
starts serial (End n name) = false

-- each serial number starts once, and none from the next one on
pub record IsNumbered (tokens : List Seen) (next : ℕ) : Type 0 where
  pub once : (serial : ℕ) → times (starts serial) tokens ≤ 1
  pub fresh : (serial : ℕ) → next ≤ serial → times (starts serial) tokens ≡ 0

-- the token is the last of that element
abbrev pub ends : ℕ → Seen → Bool
ends serial (Start n parent element) = false
ends serial (Words n parent bytes) = false
ends serial (End n name) = n == serial

-- the token is the first of a child of that parent
abbrev pub is_child_of : (parent serial : ℕ) → Seen → Bool
is_child_of parent serial (Start n p element) = (n == serial) && (p == parent)
is_child_of parent serial (Words n p bytes) = (n == serial) && (p == parent)
is_child_of parent serial (End n name) = false

-- the token that follows the place: the first of a child, or the parent's end, which 0 names
abbrev pub follows : (parent before : ℕ) → Seen → Bool
follows parent zero = ends parent
follows parent (suc n) = is_child_of parent (suc n)
