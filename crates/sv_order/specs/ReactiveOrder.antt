-- The order of reactive statements, by the variables that each assigns and uses itself (Svelte 4 docs, '$: marks a statement
-- as reactive'). A statement is named by its place in the list.
use Rattle.std.specs.Prelude.{◌≡◌, ℕ, ◌==◌, not, true, false, List, [], ◌∷◌, ◌++◌, length, map, filter, slice_index_or, count_by, nat_lt, if◌then◌else◌}
use Rattle.std.specs.List.{flat_map, range_with_len}
use Rattle.sv_ast.specs.declared.names.Ref.{Ref}
use Rattle.sv_names.specs.Distinct.{has}
use Rattle.sv_graph.specs.Links.{is_in}
use Rattle.sv_graph.specs.Visits.{Visits}
use Rattle.sv_graph.specs.Cycle.{IsFirstCycle}
use Rattle.sv_order.specs.declared.reads.OrderError.{OrderError}
use Rattle.sv_order.specs.declared.reads.OrderError.TheVariants.{Cycle, NoMemory}
use Rattle.sv_order.specs.declared.reads.Reads.{Reads}

-- what a statement reads, and what it assigns
abbrev pub reads_of : List Reads → ℕ → List Ref
reads_of list t = slice_index_or (map (λ s. s.reads) list) t []

abbrev pub sets_of : List Reads → ℕ → List Ref
sets_of list t = slice_index_or (map (λ s. s.sets) list) t []

-- s is before t: t reads a name that it doesn't assign and that s assigns
pub record Before (list : List Reads) (s t : ℕ) : Type 0 where
  pub name : Ref
  pub is_read : has name (reads_of list t) ≡ true
  pub is_foreign : has name (sets_of list t) ≡ false
  pub is_set : has name (sets_of list s) ≡ true

-- the names that a statement reads and doesn't assign, in the order in which it reads them
abbrev pub needs_of : List Reads → ℕ → List Ref
needs_of list t = filter (λ name. not (has name (sets_of list t))) (reads_of list t)

-- the statements that assign a name, in source order
abbrev pub setters_of : List Reads → Ref → List ℕ
setters_of list name = filter (λ s. has name (sets_of list s)) (range_with_len 0 (length list))

-- the statements that are before one, by the names that it reads and then in source order
abbrev pub before_of : List Reads → ℕ → List ℕ
before_of list t = flat_map (setters_of list) (needs_of list t)

-- The statements are visited in source order. A visit of one that isn't placed yet first visits those that are before it,
-- and then places it.
abbrev pub IsOrder : List Reads → List ℕ → Type 0
IsOrder list order = Visits (before_of list) [] (range_with_len 0 (length list)) order

-- each statement stands once, and nothing else stands there
abbrev pub IsEachOnce : List Reads → List ℕ → Type 0
IsEachOnce list order = (t : ℕ) → count_by (λ x. x == t) order ≡ (if nat_lt t (length list) then 1 else 0)

-- each statement stands behind all that are before it
abbrev pub IsBehind : List Reads → List ℕ → Type 0
IsBehind list order = (s t : ℕ) (front back : List ℕ) → Before list s t → order ≡ front ++ t ∷ back → is_in s front ≡ true

-- why there is no order
abbrev pub IsCause : List Reads → OrderError → Type 0
IsCause list (Cycle cycle) = IsFirstCycle (Before list) cycle.items
IsCause list NoMemory = Unit {0}
