-- The variables of an instance.
use Rattle.std.specs.Prelude.{ℕ, ◌+◌, Bool, true, false, not, nat_eq, if◌then◌else◌, List, map, replicate, Option, Some, None, option_map, slice_index_or, slice_set, refl}
use Rattle.std.specs.Coded.{Coded, code_by, coded×, coded_list, coded_option}
use Rattle.sv_value.specs.Value.{Val, undefined}
use Rattle.sv_value.specs.Change.{differs}
use Rattle.sv_view.specs.Cell.{Cell, cell_code}

-- the present cells, and those at the last snapshot, if there was one; none where the declaration hasn't run
pub record Cells : Type 0 where
  pub now : List (Option Cell)
  pub seen : Option (List (Option Cell))

abbrev pub cells_code : Coded Cells
cells_code =
    code_by (List (Option Cell) × Option (List (Option Cell))) (coded× (coded_list (coded_option cell_code)) (coded_option (coded_list (coded_option cell_code))))
    (λ c. (c.now, c.seen)) (λ p. record { now = p.0; seen = p.1 }) (λ _. refl)

-- so many cells whose declarations haven't run
abbrev pub undeclared : ℕ → Cells
undeclared n = record { now = replicate n None; seen = None }

abbrev pub cell_at : List (Option Cell) → ℕ → Option Cell
cell_at cells n = slice_index_or cells n None

-- how often a cell changed; 0 where its declaration hasn't run
abbrev pub count_of : Option Cell → ℕ
count_of None = 0
count_of (Some c) = c.count

abbrev pub count_at : List (Option Cell) → ℕ → ℕ
count_at cells n = count_of (cell_at cells n)

abbrev pub value_at : Cells → ℕ → Option Val
value_at cells n = option_map (λ c. c.value) (cell_at cells.now n)

-- whether assigning the value counts as a change
abbrev pub changes_cell : Option Cell → Val → Bool
changes_cell None v = false
changes_cell (Some c) v = differs c.value v

abbrev pub changes : Cells → ℕ → Val → Bool
changes cells n v = changes_cell (cell_at cells.now n) v

-- the cell takes the value where that counts as a change, which is counted
abbrev pub assigned_cell : Option Cell → Val → Option Cell
assigned_cell None v = None
assigned_cell (Some c) v = if differs c.value v then Some (record { value = v; count = c.count + 1 }) else Some c

abbrev pub assigned : Cells → ℕ → Val → Cells
assigned cells n v = record cells { now = slice_set cells.now n (assigned_cell (cell_at cells.now n) v) }

-- the first value, before the first snapshot
abbrev pub declared_cell : Option (List (Option Cell)) → Option Cell → Val → Option Cell
declared_cell None None v = Some (record { value = v; count = 0 })
declared_cell None (Some c) v = Some c
declared_cell (Some seen) c v = c

abbrev pub declared : Cells → ℕ → Val → Cells
declared cells n v = record cells { now = slice_set cells.now n (declared_cell cells.seen (cell_at cells.now n) v) }

-- one more change of a cell, whose value is no value of a script
abbrev pub touched_cell : Option Cell → Option Cell
touched_cell None = None
touched_cell (Some c) = Some (record { value = undefined; count = c.count + 1 })

abbrev pub touched : Cells → ℕ → Cells
touched cells n = record cells { now = slice_set cells.now n (touched_cell (cell_at cells.now n)) }

-- whether the counts of a cell differ
abbrev pub has_moved : Option Cell → Option Cell → Bool
has_moved old now = not (nat_eq (count_of now) (count_of old))

-- whether a cell's count isn't the one at the last snapshot; every cell's where there was none
abbrev pub is_dirty_since : Option (List (Option Cell)) → List (Option Cell) → ℕ → Bool
is_dirty_since None now n = true
is_dirty_since (Some seen) now n = has_moved (cell_at seen n) (cell_at now n)

abbrev pub is_dirty : Cells → ℕ → Bool
is_dirty cells n = is_dirty_since cells.seen cells.now n

-- a snapshot is taken
abbrev pub snapped : Cells → Cells
snapped cells = record cells { seen = Some cells.now }

-- the cells as a view has them
abbrev pub cell_or_new : Option Cell → Cell
cell_or_new None = record { value = undefined; count = 0 }
cell_or_new (Some c) = c

abbrev pub present : List (Option Cell) → List Cell
present cells = map cell_or_new cells
