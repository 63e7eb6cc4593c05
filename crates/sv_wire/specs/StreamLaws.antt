-- Laws of streams.
use Rattle.std.specs.Prelude.{◌≡◌, ◌<◌, ℕ, ◌+◌, List, [], ◌∷◌, ◌++◌, length, slice_index}
use Rattle.std.specs.List.{flat_map, AllByRecursion}
use Rattle.sv_wire.specs.declared.item.Item.{Item}
use Rattle.sv_wire.specs.declared.item.Item.TheVariants as item
use Rattle.sv_wire.specs.declared.item.Placed.{Placed}
use Rattle.sv_wire.specs.Spelling.{head, spelled, CanBePut}
use Rattle.sv_wire.specs.Stream.{Open, Ended, stands, behind, told_at, told, resumed, placed, GoesOn}

-- no spelling begins another, and no two items have one
abbrev pub IsOneSpelling : Type 0
IsOneSpelling = (a b : Item) (x y : List ℕ) → CanBePut a → CanBePut b → spelled a ++ x ≡ spelled b ++ y → (a ≡ b) × (x ≡ y)

-- what is spelled behind the head is told, each item at its offset, and then what the bytes behind it tell
abbrev pub TellsSpelled : Type 0
TellsSpelled = (items : List Item) (rest : List ℕ) → AllByRecursion CanBePut items → AllByRecursion GoesOn items
    → told (head ++ (flat_map spelled items ++ rest)) ≡ behind (placed 4 items) (told_at (4 + length (flat_map spelled items)) rest)

-- no bytes tell nothing, and the last item tells that the stream ended
abbrev pub TellsNothing : Type 0
TellsNothing = (at : ℕ) → told_at at [] ≡ stands (Open at [])

abbrev pub TellsEnd : Type 0
TellsEnd = (at : ℕ) → told_at at (spelled item.End) ≡ record { items = record { at = at; item = item.End } ∷ []; standing = Ended (at + 1) }

-- however the bytes are cut, they tell the same
abbrev pub IsCutAnywhere : Type 0
IsCutAnywhere = (bytes more : List ℕ) → told (bytes ++ more) ≡ behind (told bytes).items (resumed (told bytes).standing more)

-- each is below 256
pub record IsBytes (bytes : List ℕ) : Type 0 where
  pub each : (i : ℕ) → slice_index bytes i < 256

-- the bytes begin with the spellings of these items, the first of which is at that offset
pub record IsSpelled (at : ℕ) (bytes : List ℕ) (items : List Placed) : Type 0 where
  pub all : List Item
  pub rest : List ℕ
  pub parts : bytes ≡ flat_map spelled all ++ rest
  pub told : items ≡ placed at all

-- what is told is spelled so: each byte of it
abbrev pub IsToldAsSpelled : Type 0
IsToldAsSpelled = (at : ℕ) (bytes : List ℕ) → IsBytes bytes → IsSpelled at bytes (told_at at bytes).items
