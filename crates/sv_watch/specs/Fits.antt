-- Which changes fit a page: those that name nodes that are there and are of the kind that the change is for, and places that are there.
use Rattle.std.specs.Prelude.{ℕ, ◌==◌, ◌&&◌, ◌||◌, not, Bool, false, List, [], ◌∷◌, codes, nat_le}
use Rattle.std.specs.List.{list_any}
use Rattle.std.specs.Str.{bytes_eq}
use Rattle.sv_tokens.specs.declared.element.Attribute.{Attribute}
use Rattle.sv_tokens.specs.declared.change.Change.{Change}
use Rattle.sv_tokens.specs.declared.change.Change.TheVariants.{Make, SetText, SetAttr, DropAttr, SetTyped, Move, Remove}
use Rattle.sv_tokens.specs.Seen.{Seen, Start, Words, End, View, starts, is_child_of}
use Rattle.sv_tokens.specs.Replay.{parent_in}

-- the token begins the element with that serial number, or the page, whose number is 0
abbrev pub is_holder : ℕ → Seen → Bool
is_holder serial (Start n parent element) = n == serial
is_holder serial (Words n parent bytes) = false
is_holder serial (End n name) = false

-- the token is the text with that serial number
abbrev pub is_words : ℕ → Seen → Bool
is_words serial (Start n parent element) = false
is_words serial (Words n parent bytes) = n == serial
is_words serial (End n name) = false

-- the attribute is at that slot
abbrev pub is_at : ℕ → Attribute → Bool
is_at slot attribute = attribute.slot == slot

-- the token begins that element, which has an attribute at the slot
abbrev pub has_slot : (serial slot : ℕ) → Seen → Bool
has_slot serial slot (Start n parent element) = (n == serial) && list_any (is_at slot) element.attributes
has_slot serial slot (Words n parent bytes) = false
has_slot serial slot (End n name) = false

-- the token begins that element, which is an input
abbrev pub is_input : ℕ → Seen → Bool
is_input serial (Start n parent element) = (n == serial) && bytes_eq element.name (codes "input")
is_input serial (Words n parent bytes) = false
is_input serial (End n name) = false

-- the parent is there, and has that child; 0 is its end
abbrev pub has_place : (parent before : ℕ) → List Seen → Bool
has_place parent before ts = list_any (is_holder parent) ts && ((before == 0) || list_any (is_child_of parent before) ts)

-- the token begins that node, and its parent has that other child; 0 is the parent's end
abbrev pub is_beside : (serial before : ℕ) → List Seen → Seen → Bool
is_beside serial before ts t = starts serial t && ((before == 0) || (not (before == serial) && list_any (is_child_of (parent_in (t ∷ [])) before) ts))

-- some token of a node passes; the page itself is no node
abbrev pub has : (serial : ℕ) → (Seen → Bool) → List Seen → Bool
has serial p ts = not (serial == 0) && list_any p ts

-- the change fits the page
abbrev pub fits : Change → View → Bool
fits (Make serial parent before kind) v = nat_le v.next serial && has_place parent before v.tokens
fits (SetText serial text) v = has serial (is_words serial) v.tokens
fits (SetAttr serial slot name attr) v = has serial (is_holder serial) v.tokens
fits (DropAttr serial slot) v = has serial (has_slot serial slot) v.tokens
fits (SetTyped serial typed) v = has serial (is_input serial) v.tokens
fits (Move serial before) v = has serial (is_beside serial before v.tokens) v.tokens
fits (Remove serial) v = has serial (starts serial) v.tokens
