-- The states of all components, as contracts see them.
use Rattle.std.specs.Prelude.{ℕ, Bool, false, List, length, Option, Some, None, is_some}
use Rattle.sv_numbered.specs.Numbered.{at, altered}
use Rattle.sv_value.specs.Value.{Val}
use Rattle.sv_view.specs.Cell.{Cell}
use Rattle.sv_derived.specs.Derived.{Derived, found}
use Rattle.sv_store.specs.Stores.{Store}
use Rattle.sv_instance.specs.Cells as cells
use Rattle.sv_instance.specs.declared.instance.Instance.{Instance}
use Rattle.sv_instance.specs.declared.setup.Setup.{Setup}

-- the live instances by number, the stores, those of them that are derived, and the numbers of the instances that wait for an update, in
-- order
pub record States : Type 0 where
  pub lives : List (Option Instance)
  pub stores : List Store
  pub derived : List Derived
  pub queue : List ℕ

abbrev pub live : States → ℕ → Option Instance
live s n = at s.lives n

-- an instance changed, where it is live
abbrev pub with_instance : (Instance → Instance) → States → ℕ → States
with_instance f s n = record s { lives = altered f s.lives n }

-- how deep an instance is, the root being 1; 0 where it isn't live
abbrev pub depth_of : Option Instance → ℕ
depth_of None = 0
depth_of (Some i) = i.place.depth

-- the value of a cell, where its declaration ran
abbrev pub value_in : Option Instance → ℕ → Option Val
value_in None c = None
value_in (Some i) c = cells.value_at i.cells c

abbrev pub cell_in : Option Instance → ℕ → Option Cell
cell_in None c = None
cell_in (Some i) c = cells.cell_at i.cells.now c

-- whether a cell's declaration ran
abbrev pub has_cell : Option Instance → ℕ → Bool
has_cell None c = false
has_cell (Some i) c = is_some (cells.cell_at i.cells.now c)

-- how often a cell changed
abbrev pub count_in : Option Instance → ℕ → ℕ
count_in None c = 0
count_in (Some i) c = cells.count_at i.cells.now c

-- how many cells an instance has
abbrev pub cell_count : Option Instance → ℕ
cell_count None = 0
cell_count (Some i) = length i.cells.now

-- whether a cell's count isn't the one at the last snapshot; every cell's where there was none
abbrev pub is_dirty_in : Option Instance → ℕ → Bool
is_dirty_in None c = false
is_dirty_in (Some i) c = cells.is_dirty i.cells c

-- what was left with an instance
abbrev pub setup_of : Option Instance → Option Setup
setup_of None = None
setup_of (Some i) = Some i.setup

-- whether a store is a derived one
abbrev pub is_derived : States → ℕ → Bool
is_derived s id = is_some (found s.derived id)
