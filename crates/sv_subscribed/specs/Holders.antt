-- The stores that `$` names look at: what their names hold, the variable, the constant or the import between braces.
use Rattle.std.specs.Prelude.{◌≡◌, ◌<◌, ℕ, List, Option, Some, None, option_map}
use Rattle.std.specs.Option.{option_and_then}
use Rattle.sv_code.specs.declared.known.Known.{Known}
use Rattle.sv_code.specs.declared.known.Known.TheVariants as known
use Rattle.sv_instance.specs.Cells.{cell_at}
use Rattle.sv_places.specs.Any.{Any}
use Rattle.sv_value.specs.Value.{Val, store}
use Rattle.sv_view.specs.Cell.{Cell}
use Rattle.sv_view.specs.Constants.{constant_at, module_constant_at}

-- one of some things
abbrev pub IsAmong : {A : Type 0} → A → List A → Type 0
IsAmong x xs = Any (λ y. y ≡ x) xs

-- the number of the store that a value is, if it is one
abbrev pub store_of : Val → Option ℕ
store_of (store id) = Some id
store_of _ = None

-- that of what something holds
abbrev pub store_held : Option Val → Option ℕ
store_held held = option_and_then store_of held

-- what is held by what stands in a cell, a constant or an export, by the constants of module files, the cells and the constants of an instance
abbrev pub held : List (List (Option Val)) → List (Option Cell) → List (Option Val) → Known → Option Val
held ms now constants (known.Cell n) = option_map (λ (c : Cell). c.value) (cell_at now n)
held ms now constants (known.Constant n) = constant_at constants n
held ms now constants (known.Export file n) = module_constant_at ms file n
held ms now constants _ = None

-- a `$` name whose name holds this looks at a store, if at one: at no other than the one that is held, and at that where it is one of the first so many
pub record Looks (many : ℕ) (held : Option Val) (st : Option ℕ) : Type 0 where
  pub right : (id : ℕ) → st ≡ Some id → store_held held ≡ Some id
  pub there : (id : ℕ) → store_held held ≡ Some id → id < many → st ≡ Some id
