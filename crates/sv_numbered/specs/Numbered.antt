-- Values by number.
use Rattle.std.specs.Prelude.{ℕ, List, Option, None, Some, slice_index_or, slice_set}

-- the value with this number
abbrev pub at : {T : Type 0} → List (Option T) → ℕ → Option T
at values n = slice_index_or values n None

abbrev pub altered_over : {T : Type 0} → (T → T) → Option T → List (Option T) → ℕ → List (Option T)
altered_over f None values n = values
altered_over f (Some x) values n = slice_set values n (Some (f x))

-- the values with one of them changed, if it is there
abbrev pub altered : {T : Type 0} → (T → T) → List (Option T) → ℕ → List (Option T)
altered f values n = altered_over f (at values n) values n
