-- The depth and the size of some values, counted up to the limit.
use Rattle.std.specs.Prelude.{◌≡◌, ℕ, min}
use Rattle.sv_base.specs.declared.limits.TheConstants.{VALUE_SIZE_LIMIT}
use Rattle.sv_value.specs.declared.measure.Measure.{Measure}

-- the greatest depth, and the size up to the limit
pub record Measures (m : Measure) (depth size : ℕ) : Type 0 where
  pub deepest : m.deepest ≡ depth
  pub total : m.total ≡ min VALUE_SIZE_LIMIT size
