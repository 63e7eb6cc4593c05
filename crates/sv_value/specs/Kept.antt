-- What is kept beside the items of a list and the fields of an object, so that the limits cost no walk.
use Rattle.std.specs.Prelude.{◌≡◌, ◌<◌, ℕ}
use Rattle.sv_base.specs.declared.limits.TheConstants.{VALUE_DEPTH_LIMIT, VALUE_SIZE_LIMIT}
use Rattle.sv_value.specs.Value.{Vals, Fields, depths, sizes, field_depths, field_sizes}
use Rattle.sv_value.specs.Object.{IsOrdered}

-- the depth and the size of some items, which a list may have
pub record KeepsItems (deepest total : ℕ) (vs : Vals) : Type 0 where
  pub deepest_is : deepest ≡ depths vs
  pub total_is : total ≡ sizes vs
  pub shallow : deepest < VALUE_DEPTH_LIMIT
  pub small : total < VALUE_SIZE_LIMIT

-- the depth and the size of some fields, which an object may have, in the order of their keys
pub record KeepsFields (deepest total : ℕ) (fs : Fields) : Type 0 where
  pub deepest_is : deepest ≡ field_depths fs
  pub total_is : total ≡ field_sizes fs
  pub shallow : deepest < VALUE_DEPTH_LIMIT
  pub small : total < VALUE_SIZE_LIMIT
  pub ordered : IsOrdered fs
