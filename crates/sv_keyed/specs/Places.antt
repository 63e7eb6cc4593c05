-- Where keys stand, by a map.
use Rattle.std.specs.Prelude.{◌≡◌, ◌<◌, ℕ, List, Option, Some, MatchOption, slice_get}
use Rattle.std.specs.declared.cmp.Ordering.{Ordering}
use Rattle.sv_value.specs.declared.key.Key.{Key}
use Rattle.sv_value.specs.contracts.key.KeyOrd.TheImpl as key_ord
use Rattle.sv_keyed.specs.Keys.{times}

-- the order of keys
abbrev pub key_order : Key → Key → Ordering
key_order = (key_ord.ghosts).cmp

-- each of the keys seen is found at a place of the list where it stands, and no other key is found
pub record FindsPlaces (find : Key → Option ℕ) (keys seen : List Key) : Type 0 where
  pub at : (k : Key) → MatchOption (find k) (times k seen ≡ 0) (λ i. (slice_get keys i ≡ Some k) × (0 < times k seen))
