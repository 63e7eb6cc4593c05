-- What stands in the cells that a value went to.
use Rattle.std.specs.Prelude.{◌≡◌, ℕ, true, List, Some, None}
use Rattle.sv_code.specs.Names.{Each}
use Rattle.sv_instance.specs.Bound.{Bound}
use Rattle.sv_states.specs.Moving.{name_in}
use Rattle.sv_states.specs.States.{States, live, value_in, has_cell}
use Rattle.sv_store.specs.Stores.{Subscriber}
use Rattle.sv_value.specs.Value.{Val}

-- a cell has a value
abbrev pub Has : States → Val → Subscriber → Type 0
Has s v q = value_in (live s q.inst) q.cell ≡ Some v

abbrev pub HaveAll : States → Val → List Subscriber → Type 0
HaveAll s v qs = Each (Has s v) qs

-- a cell is no `$` name's
abbrev pub IsPlain : States → ℕ → ℕ → Type 0
IsPlain s n c = name_in (live s n) c ≡ None

abbrev pub IsDeclared : States → ℕ → ℕ → Type 0
IsDeclared s n c = has_cell (live s n) c ≡ true

-- a prop and the variable that it is bound to have the same value
abbrev pub AreSame : States → ℕ → Bound → Type 0
AreSame s n b = value_in (live s n) b.cell ≡ value_in (live s b.owner) b.target
