-- What a change makes of a page that watchers see. A change that names a node that is not there or of another kind, a place that is none, or a new serial number that is not above every earlier one leaves the page as it was.
use Rattle.std.specs.Prelude.{◌≡◌, ◌≢◌, IsSome, IsNone, ◌&&◌, Bool, ℕ, zero, suc, List, [], ◌∷◌, ◌++◌, map, Option, Some, None, if◌then◌else◌, nat_le}
use Rattle.std.specs.List.{list_any}
use Rattle.sv_tokens.specs.Counting.{times}
use Rattle.sv_tokens.specs.Token.{Name, Element, Token, Open, Close, Page, begins}
use Rattle.sv_tokens.specs.Edit.{Rewritten, Inserted, with_attribute, without_slot, with_typed}
use Rattle.sv_tokens.specs.Seen.{Seen, Start, Words, End, View, view_of, starts, ends, follows}
use Rattle.sv_tokens.specs.declared.change.What.{What}
use Rattle.sv_tokens.specs.declared.change.What.TheVariants as what
use Rattle.sv_tokens.specs.declared.change.Change.{Change}
use Rattle.sv_tokens.specs.declared.change.Change.TheVariants.{Make, SetText, SetAttr, DropAttr, SetTyped, Move, Remove}

-- an element that has nothing but its name
abbrev pub bare : List ℕ → Element
bare name = record { name = name; attributes = []; typed = None }

-- the tokens of a new element, which has nothing but its name
abbrev pub element_tokens : (node parent : Name) (name : List ℕ) → List Token
element_tokens node parent name = Open node parent None (bare name) ∷ Close node name ∷ []

-- the tokens of a new node
abbrev pub made : (serial parent : ℕ) → What → List Seen
made serial parent (what.Element name) = Start serial parent (bare name) ∷ End serial name ∷ []
made serial parent (what.Text bytes) = Words serial parent bytes ∷ []

-- with those tokens before the first that passes; as they are where none does
abbrev pub put_before : (Seen → Bool) → List Seen → List Seen → List Seen
put_before p own [] = []
put_before p own (t ∷ ts) = if p t then own ++ (t ∷ ts) else t ∷ put_before p own ts

-- up to the first that passes, with it
abbrev pub through : (Seen → Bool) → List Seen → List Seen
through p [] = []
through p (t ∷ ts) = if p t then t ∷ [] else t ∷ through p ts

-- behind the first that passes
abbrev pub behind : (Seen → Bool) → List Seen → List Seen
behind p [] = []
behind p (t ∷ ts) = if p t then ts else behind p ts

-- what belongs to the node that the token begins, of the tokens after it
abbrev pub rest_of : Seen → List Seen → List Seen
rest_of (Start n parent element) ts = through (ends n) ts
rest_of (Words n parent bytes) ts = []
rest_of (End n name) ts = []

-- what follows that node
abbrev pub after : Seen → List Seen → List Seen
after (Start n parent element) ts = behind (ends n) ts
after (Words n parent bytes) ts = ts
after (End n name) ts = ts

-- the tokens of a node and all below it; none where it is not there
abbrev pub span_of : ℕ → List Seen → List Seen
span_of serial [] = []
span_of serial (t ∷ ts) = if starts serial t then t ∷ rest_of t ts else span_of serial ts

-- the tokens without those of a node and all below it
abbrev pub without : ℕ → List Seen → List Seen
without serial [] = []
without serial (t ∷ ts) = if starts serial t then after t ts else t ∷ without serial ts

-- the parent of the node that the first token begins
abbrev pub parent_in : List Seen → ℕ
parent_in [] = 0
parent_in (Start n parent element ∷ ts) = parent
parent_in (Words n parent bytes ∷ ts) = parent
parent_in (End n name ∷ ts) = 0

-- rewrites the first token of one node
abbrev pub at_node : ℕ → (Seen → Seen) → Seen → Seen
at_node serial f t = if starts serial t then f t else t

-- rewrites the first token of one node of the page, but not of the page itself
abbrev pub rewrite : ℕ → (Seen → Seen) → View → View
rewrite zero f v = v
rewrite (suc n) f v = record v { tokens = map (at_node (suc n) f) v.tokens }

-- a text with other bytes
abbrev pub with_words : List ℕ → Seen → Seen
with_words bytes (Start n parent element) = Start n parent element
with_words bytes (Words n parent was) = Words n parent bytes
with_words bytes (End n name) = End n name

-- an element that shows another of its own
abbrev pub with_start : (Element → Element) → Seen → Seen
with_start f (Start n parent element) = Start n parent (f element)
with_start f (Words n parent bytes) = Words n parent bytes
with_start f (End n name) = End n name

-- the node before that sibling, or at its parent's end
abbrev pub moved : ℕ → ℕ → List Seen → List Seen
moved serial before ts =
    let own = span_of serial ts in
    let place = follows (parent_in own) before in
    if list_any place (without serial ts) then put_before place own (without serial ts) else ts

-- what the change makes of the page
abbrev pub replay : Change → View → View
replay (Make serial parent before what) v =
    if nat_le v.next serial && list_any (follows parent before) v.tokens
    then record { tokens = put_before (follows parent before) (made serial parent what) v.tokens; next = suc serial }
    else v
replay (SetText serial text) v = rewrite serial (with_words text) v
replay (SetAttr serial slot name attr) v = rewrite serial (with_start (with_attribute (record { slot = slot; name = name; value = attr }))) v
replay (DropAttr serial slot) v = rewrite serial (with_start (without_slot slot)) v
replay (SetTyped serial typed) v = rewrite serial (with_start (with_typed typed)) v
replay (Move zero before) v = v
replay (Move (suc n) before) v = record v { tokens = moved (suc n) before v.tokens }
replay (Remove zero) v = v
replay (Remove (suc n)) v = record v { tokens = without (suc n) v.tokens }

-- what a call's answer makes of it, which tells a change or none
abbrev pub replay_if : Option Change → View → View
replay_if None v = v
replay_if (Some change) v = replay change v

-- A call told of its edit of a page: the change, if one was told, makes the new page of the old one as watchers see them; one was told where the pages differ in what is seen, and none where nothing was edited.
pub record Tells (told : Option Change) (old new : Page) : Type 0 where
  pub replayed : view_of new ≡ replay_if told (view_of old)
  pub some : IsSome told → view_of new ≢ view_of old
  pub none : IsNone told → new ≡ old

-- the first token of a node was rewritten and nothing else, and that was told
pub record Edits (old new : Page) (key : ℕ) (f : Token → Token) (told : Option Change) : Type 0 where
  pub tokens : Rewritten old.tokens new.tokens key f
  pub next : new.next ≡ old.next
  pub number : new.number ≡ old.number
  pub tells : Tells told old new

-- a new node's tokens stand at the place, under a key that no other node has
pub record Gains (old new : Page) (parent : ℕ) (before : Option ℕ) (key : ℕ) (own : List Token) : Type 0 where
  pub tokens : Inserted old.tokens new.tokens parent before own
  pub fresh : times (begins key) old.tokens ≡ 0
  pub number : new.number ≡ old.number

-- what the changes make of it, one after another
abbrev pub replay_all : List Change → View → View
replay_all [] v = v
replay_all (change ∷ changes) v = replay_all changes (replay change v)
