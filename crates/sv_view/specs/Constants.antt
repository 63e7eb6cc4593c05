-- Constants by number, and those of module files by file.
use Rattle.std.specs.Prelude.{ℕ, List, [], Option, Some, None, slice_index_or, slice_set, replicate}
use Rattle.sv_value.specs.Value.{Val}

-- the value of a constant, if it has one
abbrev pub constant_at : List (Option Val) → ℕ → Option Val
constant_at constants n = slice_index_or constants n None

-- the value of a constant of a module file
abbrev pub module_constant_at : List (List (Option Val)) → ℕ → ℕ → Option Val
module_constant_at modules file n = constant_at (slice_index_or modules file []) n

-- a constant of a module file has a value
abbrev pub with_module_constant : List (List (Option Val)) → ℕ → ℕ → Val → List (List (Option Val))
with_module_constant modules file n v = slice_set modules file (slice_set (slice_index_or modules file []) n (Some v))

-- so many constants that have no values
abbrev pub no_constants : ℕ → List (Option Val)
no_constants n = replicate n None
