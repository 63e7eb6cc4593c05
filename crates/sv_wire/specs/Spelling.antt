-- How an item is spelled: the byte of its form, and then its fields. Numbers are big-endian, and a text stands behind the number of its bytes.
use Rattle.std.specs.Prelude.{◌≤◌, ◌<◌, ◌^◌, ℕ, true, false, List, [], ◌∷◌, ◌++◌, length, codes, Some, None}
use Rattle.std.specs.Int.{w16, w32, w64, to_be_bytes}
use Rattle.std.specs.List.{AllByRecursion}
use Rattle.std.specs.Str.{IsUtf8}
use Rattle.sv_tokens.specs.declared.element.Attr.TheVariants as attr
use Rattle.sv_tokens.specs.declared.element.Typed.TheVariants as typed
use Rattle.sv_tokens.specs.declared.change.What.TheVariants as what
use Rattle.sv_tokens.specs.declared.change.Change.{Change}
use Rattle.sv_tokens.specs.declared.change.Change.TheVariants.{Make, SetText, SetAttr, DropAttr, SetTyped, Move, Remove}
use Rattle.sv_wire.specs.declared.item.Item.{Item}
use Rattle.sv_wire.specs.declared.item.Item.TheVariants as item
use Rattle.sv_wire.specs.declared.item.TheConstants.{LONGEST_TEXT}

-- what a stream begins with
abbrev pub head : List ℕ
head = codes "SVW1"

-- a serial number has eight bytes
unfoldable pub serial : ℕ → List ℕ
serial n = to_be_bytes w64 n

-- a slot has two
unfoldable pub slot : ℕ → List ℕ
slot n = to_be_bytes w16 n

-- four bytes of length, and that many bytes
unfoldable pub text : List ℕ → List ℕ
text bytes = to_be_bytes w32 (length bytes) ++ bytes

-- the spelling of a change
abbrev pub change : Change → List ℕ
change (Make node parent before (what.Element name)) = 1 ∷ (serial node ++ (serial parent ++ (serial before ++ text name)))
change (Make node parent before (what.Text words)) = 2 ∷ (serial node ++ (serial parent ++ (serial before ++ text words)))
change (SetText node words) = 3 ∷ (serial node ++ text words)
change (SetAttr node at name attr.Flag) = 4 ∷ (serial node ++ (slot at ++ text name))
change (SetAttr node at name (attr.Text words)) = 5 ∷ (serial node ++ (slot at ++ (text name ++ text words)))
change (DropAttr node at) = 6 ∷ (serial node ++ slot at)
change (SetTyped node None) = 7 ∷ serial node
change (SetTyped node (Some (typed.Text words))) = 8 ∷ (serial node ++ text words)
change (SetTyped node (Some (typed.Checked false))) = 9 ∷ serial node
change (SetTyped node (Some (typed.Checked true))) = 10 ∷ serial node
change (Move node before) = 11 ∷ (serial node ++ serial before)
change (Remove node) = 12 ∷ serial node

-- the spelling of an item
abbrev pub spelled : Item → List ℕ
spelled (item.Change c) = change c
spelled (item.Turn true) = 13 ∷ []
spelled (item.Turn false) = 14 ∷ []
spelled item.End = 15 ∷ []

-- the serial numbers that a change names
abbrev pub serials : Change → List ℕ
serials (Make node parent before kind) = node ∷ parent ∷ before ∷ []
serials (SetText node words) = node ∷ []
serials (SetAttr node at name value) = node ∷ []
serials (DropAttr node at) = node ∷ []
serials (SetTyped node state) = node ∷ []
serials (Move node before) = node ∷ before ∷ []
serials (Remove node) = node ∷ []

-- the slots that it names
abbrev pub slots : Change → List ℕ
slots (Make node parent before kind) = []
slots (SetText node words) = []
slots (SetAttr node at name value) = at ∷ []
slots (DropAttr node at) = at ∷ []
slots (SetTyped node state) = []
slots (Move node before) = []
slots (Remove node) = []

-- the texts in it
abbrev pub texts : Change → List (List ℕ)
texts (Make node parent before (what.Element name)) = name ∷ []
texts (Make node parent before (what.Text words)) = words ∷ []
texts (SetText node words) = words ∷ []
texts (SetAttr node at name attr.Flag) = name ∷ []
texts (SetAttr node at name (attr.Text words)) = name ∷ words ∷ []
texts (DropAttr node at) = []
texts (SetTyped node None) = []
texts (SetTyped node (Some (typed.Text words))) = words ∷ []
texts (SetTyped node (Some (typed.Checked state))) = []
texts (Move node before) = []
texts (Remove node) = []

-- a text that is no longer than the limit
abbrev pub IsShortText : List ℕ → Type 0
IsShortText bytes = length bytes ≤ LONGEST_TEXT

-- no text in it is longer
abbrev pub IsShort : Change → Type 0
IsShort c = AllByRecursion IsShortText (texts c)

-- no text of an item is longer
abbrev pub IsShortItem : Item → Type 0
IsShortItem (item.Change c) = IsShort c
IsShortItem (item.Turn target) = Unit {0}
IsShortItem item.End = Unit {0}

-- a text of at most so many bytes in UTF-8
abbrev pub IsText : List ℕ → Type 0
IsText bytes = IsShortText bytes × IsUtf8 bytes

-- what a change of the code is: its numbers are of their types, and its texts are texts that are no longer than the limit
pub record HasSpelling (c : Change) : Type 0 where
  pub serials : AllByRecursion (λ n. n < 2 ^ 64) (serials c)
  pub slots : AllByRecursion (λ n. n < 2 ^ 16) (slots c)
  pub texts : AllByRecursion IsText (texts c)

-- the same of an item
abbrev pub CanBePut : Item → Type 0
CanBePut (item.Change c) = HasSpelling c
CanBePut (item.Turn target) = Unit {0}
CanBePut item.End = Unit {0}
