-- How an item is read from the front of bytes, from left to right.
use Rattle.std.specs.Prelude.{◌≡◌, ℕ, ◌-◌, ◌==◌, Bool, true, false, List, [], ◌∷◌, length, take, drop, Some, None, Result, Ok, Err, nat_lt, if◌then◌else◌}
use Rattle.std.specs.Int.{Width, w16, w32, w64, byte_len, from_be_bytes}
use Rattle.std.specs.Str.{is_utf8}
use Rattle.sv_tokens.specs.declared.element.Attr.TheVariants as attr
use Rattle.sv_tokens.specs.declared.element.Typed.TheVariants as typed
use Rattle.sv_tokens.specs.declared.change.What.{What}
use Rattle.sv_tokens.specs.declared.change.What.TheVariants as what
use Rattle.sv_tokens.specs.declared.change.Change.TheVariants.{Make, SetText, SetAttr, DropAttr, SetTyped, Move, Remove}
use Rattle.sv_wire.specs.declared.flaw.Flaw.{Flaw}
use Rattle.sv_wire.specs.declared.flaw.Flaw.TheVariants.{Wants, Wrong}
use Rattle.sv_wire.specs.declared.flaw.ReadError.{ReadError}
use Rattle.sv_wire.specs.declared.flaw.ReadError.TheVariants as errors
use Rattle.sv_wire.specs.declared.item.Item.{Item}
use Rattle.sv_wire.specs.declared.item.Item.TheVariants as item
use Rattle.sv_wire.specs.declared.item.TheConstants.{LONGEST_TEXT}

-- A reader takes what it reads from the front of bytes, and gives it with the bytes behind it. Else it says that so many more bytes have to come before more can be said, or that the bytes are wrong however they go on.
abbrev pub Outcome : Type 0 → Type 0
Outcome A = Result (A × List ℕ) Flaw

abbrev pub Parser : Type 0 → Type 0
Parser A = List ℕ → Outcome A

-- goes on behind what was read
abbrev pub go_on : {A B : Type 0} → (A → Parser B) → Outcome A → Outcome B
go_on f (Ok x) = f x.0 x.1
go_on f (Err flaw) = Err flaw

infixl 10 ◌>>=◌
abbrev pub ◌>>=◌ : {A B : Type 0} → Parser A → (A → Parser B) → Parser B
(p >>= f) bytes = go_on f (p bytes)

-- reads nothing
abbrev pub give : {A : Type 0} → A → Parser A
give x bytes = Ok (x, bytes)

-- a big-endian number
abbrev pub number_at : Width → Parser ℕ
number_at w bytes = if nat_lt (length bytes) (byte_len w) then Err (Wants (byte_len w - length bytes)) else Ok (from_be_bytes w (take (byte_len w) bytes), drop (byte_len w) bytes)

unfoldable pub serial_at : Parser ℕ
serial_at = number_at w64

unfoldable pub slot_at : Parser ℕ
slot_at = number_at w16

unfoldable pub length_at : Parser ℕ
length_at = number_at w32

-- so many bytes, which are to be UTF-8
unfoldable pub words_at : ℕ → Parser (List ℕ)
words_at n bytes =
    if nat_lt LONGEST_TEXT n then Err Wrong
    else (if nat_lt (length bytes) n then Err (Wants (n - length bytes)) else (if is_utf8 (take n bytes) then Ok (take n bytes, drop n bytes) else Err Wrong))

-- a text behind its length
unfoldable pub text_at : Parser (List ℕ)
text_at = length_at >>= words_at

-- an element, or a text
abbrev pub kind_of : Bool → List ℕ → What
kind_of true = what.Element
kind_of false = what.Text

unfoldable pub make_at : (List ℕ → What) → Parser Item
make_at kind = do
  node ← serial_at
  parent ← serial_at
  before ← serial_at
  words ← text_at
  give (item.Change (Make node parent before (kind words)))

unfoldable pub set_text_at : Parser Item
set_text_at = do
  node ← serial_at
  words ← text_at
  give (item.Change (SetText node words))

unfoldable pub set_flag_at : Parser Item
set_flag_at = do
  node ← serial_at
  at ← slot_at
  name ← text_at
  give (item.Change (SetAttr node at name attr.Flag))

unfoldable pub set_attr_at : Parser Item
set_attr_at = do
  node ← serial_at
  at ← slot_at
  name ← text_at
  words ← text_at
  give (item.Change (SetAttr node at name (attr.Text words)))

unfoldable pub drop_attr_at : Parser Item
drop_attr_at = do
  node ← serial_at
  at ← slot_at
  give (item.Change (DropAttr node at))

unfoldable pub untyped_at : Parser Item
untyped_at = do
  node ← serial_at
  give (item.Change (SetTyped node None))

unfoldable pub typed_text_at : Parser Item
typed_text_at = do
  node ← serial_at
  words ← text_at
  give (item.Change (SetTyped node (Some (typed.Text words))))

unfoldable pub typed_box_at : Bool → Parser Item
typed_box_at checked = do
  node ← serial_at
  give (item.Change (SetTyped node (Some (typed.Checked checked))))

unfoldable pub move_at : Parser Item
move_at = do
  node ← serial_at
  before ← serial_at
  give (item.Change (Move node before))

unfoldable pub remove_at : Parser Item
remove_at = do
  node ← serial_at
  give (item.Change (Remove node))

-- nothing is read so
abbrev pub nothing_at : Parser Item
nothing_at bytes = Err Wrong

-- the fields of the form with that byte
unfoldable pub fields_at : ℕ → Parser Item
fields_at kind =
    if kind == 1 then make_at (kind_of true) else (
    if kind == 2 then make_at (kind_of false) else (
    if kind == 3 then set_text_at else (
    if kind == 4 then set_flag_at else (
    if kind == 5 then set_attr_at else (
    if kind == 6 then drop_attr_at else (
    if kind == 7 then untyped_at else (
    if kind == 8 then typed_text_at else (
    if kind == 9 then typed_box_at false else (
    if kind == 10 then typed_box_at true else (
    if kind == 11 then move_at else (
    if kind == 12 then remove_at else (
    if kind == 13 then give (item.Turn true) else (
    if kind == 14 then give (item.Turn false) else (
    if kind == 15 then give item.End else nothing_at))))))))))))))

-- an item
unfoldable pub item_at : Parser Item
item_at [] = Err (Wants 1)
item_at (kind ∷ rest) = fields_at kind rest

-- what a function returned, seen by `view`, is what reading gives, unless memory ran out
abbrev pub Fails : {A : Type 0} → ReadError → Outcome A → Type 0
Fails errors.NoMemory outcome = Unit {0}
Fails (errors.Flaw flaw) outcome = outcome ≡ Err flaw

abbrev pub Gives : {X A : Type 0} → (X → A × List ℕ) → Result X ReadError → Outcome A → Type 0
Gives view (Ok x) outcome = outcome ≡ Ok (view x)
Gives view (Err error) outcome = Fails error outcome
