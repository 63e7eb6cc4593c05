-- When a value is made: the limits, and which refusal comes first.
use Rattle.std.specs.Prelude.{◌≡◌, ◌<◌, ◌≤◌, ℕ, Result, Ok, Err}
use Rattle.sv_base.specs.declared.limits.TheConstants.{VALUE_DEPTH_LIMIT, VALUE_SIZE_LIMIT}
use Rattle.sv_value.specs.Value.{Val, depth, size}
use Rattle.sv_value.specs.View.{view_of}
use Rattle.sv_value.specs.declared.value.Value.{Value}
use Rattle.sv_value.specs.declared.fault.ValueFault.{ValueFault}
use Rattle.sv_value.specs.declared.fault.ValueFault.TheVariants.{Deep, Large, NotText, NoMemory}

-- the answer is this tree, or says that it is too deep, or else that it is too large
abbrev pub Makes : Result Value ValueFault → Val → Type 0
Makes (Ok v) t = (view_of v ≡ t) × (depth t ≤ VALUE_DEPTH_LIMIT) × (size t ≤ VALUE_SIZE_LIMIT)
Makes (Err Deep) t = VALUE_DEPTH_LIMIT < depth t
Makes (Err Large) t = (depth t ≤ VALUE_DEPTH_LIMIT) × (VALUE_SIZE_LIMIT < size t)
Makes (Err NotText) t = ⊥
Makes (Err NoMemory) t = Unit {0}

-- the same of what stands in a list or an object, with its depth and size, where the whole is one deeper and one larger
abbrev pub Holds : {X : Type 0} → Result X ValueFault → X → (depth size : ℕ) → Type 0
Holds (Ok x) y depth size = (x ≡ y) × (depth < VALUE_DEPTH_LIMIT) × (size < VALUE_SIZE_LIMIT)
Holds (Err Deep) y depth size = VALUE_DEPTH_LIMIT ≤ depth
Holds (Err Large) y depth size = (depth < VALUE_DEPTH_LIMIT) × (VALUE_SIZE_LIMIT ≤ size)
Holds (Err NotText) y depth size = ⊥
Holds (Err NoMemory) y depth size = Unit {0}
