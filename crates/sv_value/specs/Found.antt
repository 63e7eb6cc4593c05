-- Where a field stands among the fields of an object in memory.
use Rattle.std.specs.Prelude.{◌≡◌, ◌<◌, ℕ, List, length, slice_index_or}
use Rattle.sv_value.specs.declared.value.Value.{Value}

-- the field with this key stands at this place
pub record IsFieldAt (pairs : List (List ℕ × Value)) (key : List ℕ) (i : ℕ) : Type 0 where
  pub within : i < length pairs
  pub has_key : (d : List ℕ × Value) → (slice_index_or pairs i d).0 ≡ key
