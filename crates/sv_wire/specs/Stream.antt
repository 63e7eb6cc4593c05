-- What the bytes of a stream tell: its items with their offsets, and how it stands behind them.
use Rattle.std.specs.Prelude.{◌≡◌, ℕ, zero, suc, ◌+◌, ◌-◌, Bool, true, false, List, [], ◌∷◌, ◌++◌, length, drop, Result, Ok, Err, ◌==◌, if◌then◌else◌}
use Rattle.sv_wire.specs.declared.flaw.Flaw.{Flaw}
use Rattle.sv_wire.specs.declared.flaw.Flaw.TheVariants.{Wants, Wrong}
use Rattle.sv_wire.specs.declared.item.Item.{Item}
use Rattle.sv_wire.specs.declared.item.Item.TheVariants as item
use Rattle.sv_wire.specs.declared.item.Placed.{Placed}
use Rattle.sv_wire.specs.Spelling.{head, spelled}
use Rattle.sv_wire.specs.Reading.{Outcome, item_at}

-- How a stream stands: it is less than the head, or behind its items are these bytes of one item, from that offset on; or it ended there; or at that offset it is wrong.
pub data Standing : Type 0 where
  Begun : (bytes : List ℕ) → Standing
  Open : (at : ℕ) (bytes : List ℕ) → Standing
  Ended : (at : ℕ) → Standing
  Bad : (at : ℕ) → Standing

pub record Told : Type 0 where
  pub items : List Placed
  pub standing : Standing

-- nothing more is told
abbrev pub stands : Standing → Told
stands standing = record { items = []; standing = standing }

-- these items were told before
abbrev pub behind : List Placed → Told → Told
behind items told = record { items = items ++ told.items; standing = told.standing }

-- what follows the last item, from that offset on
abbrev pub after_end : ℕ → List ℕ → Told
after_end at [] = stands (Ended at)
after_end at (b ∷ bytes) = stands (Bad at)

-- the item is the last of its stream
abbrev pub is_end : Item → Bool
is_end (item.Change c) = false
is_end (item.Turn target) = false
is_end item.End = true

-- the item at an offset, and what is told behind it
abbrev pub from_item : (ℕ → List ℕ → Told) → (at : ℕ) → Item → (next : ℕ) → List ℕ → Told
from_item more at x next rest = behind (record { at = at; item = x } ∷ []) (if is_end x then after_end next rest else more next rest)

abbrev pub from_outcome : (ℕ → List ℕ → Told) → (at : ℕ) → List ℕ → Outcome Item → Told
from_outcome more at bytes (Ok x) = from_item more at x.0 (at + (length bytes - length x.1)) x.1
from_outcome more at bytes (Err Wrong) = stands (Bad at)
from_outcome more at bytes (Err (Wants count)) = stands (Open at bytes)

-- what bytes from an offset on tell, of which at most so many items are read
unfoldable pub told_within : (room at : ℕ) → List ℕ → Told
told_within zero at bytes = stands (Open at bytes)
told_within (suc room) at bytes = from_outcome (told_within room) at bytes (item_at bytes)

-- what bytes from an offset on tell; an item has at least one byte
unfoldable pub told_at : ℕ → List ℕ → Told
told_at at bytes = told_within (suc (length bytes)) at bytes

-- The bytes begin so. They are wrong as soon as one differs.
abbrev pub begun : (start bytes : List ℕ) → Result (Unit {0}) Flaw
begun [] bytes = Ok tt
begun (h ∷ start) [] = Err (Wants 1)
begun (h ∷ start) (b ∷ bytes) = if b == h then begun start bytes else Err Wrong

abbrev pub from_head : List ℕ → Result (Unit {0}) Flaw → Told
from_head bytes (Ok u) = told_at 4 (drop 4 bytes)
from_head bytes (Err Wrong) = stands (Bad 0)
from_head bytes (Err (Wants count)) = stands (Begun bytes)

-- what the bytes of a stream tell
unfoldable pub told : List ℕ → Told
told bytes = from_head bytes (begun head bytes)

-- what is told when more bytes come
abbrev pub resumed : Standing → List ℕ → Told
resumed (Begun bytes) more = told (bytes ++ more)
resumed (Open at bytes) more = told_at at (bytes ++ more)
resumed (Ended at) more = after_end at more
resumed (Bad at) more = stands (Bad at)

-- it ended, and nothing follows
abbrev pub is_ended : Standing → Bool
is_ended (Begun bytes) = false
is_ended (Open at bytes) = false
is_ended (Ended at) = true
is_ended (Bad at) = false

-- the items, each at the offset at which it is spelled where the first is spelled at that one
abbrev pub placed : ℕ → List Item → List Placed
placed at [] = []
placed at (x ∷ xs) = record { at = at; item = x } ∷ placed (at + length (spelled x)) xs

-- it isn't the last of its stream
abbrev pub GoesOn : Item → Type 0
GoesOn x = is_end x ≡ false
