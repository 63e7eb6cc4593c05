-- What is read in a view, and the views that are made of one.
use Rattle.std.specs.Prelude.{ℕ, List, [], ◌∷◌, Option, Some, None, option_map, map, unwrap_or, slice_get}
use Rattle.sv_value.specs.Value.{Val}
use Rattle.sv_value.specs.declared.value.Inst.{Inst}
use Rattle.sv_view.specs.Cell.{Cell}
use Rattle.sv_view.specs.Local.{Local, local_at}
use Rattle.sv_view.specs.Level.{Level, View}
use Rattle.sv_view.specs.declared.view.At.{At}
use Rattle.sv_view.specs.declared.view.At.TheVariants as at

-- all levels, its own first
abbrev pub levels : View → List Level
levels v = v.own ∷ v.owners

-- the levels of an owner's view, if there is one
abbrev pub levels_of : Option View → List Level
levels_of None = []
levels_of (Some v) = levels v

-- an instance by its number alone
abbrev pub inst_number : Inst → ℕ
inst_number i = i.number

-- the instances of all levels
abbrev pub insts : View → List ℕ
insts v = map (λ l. l.inst) (levels v)

-- the view of an instance with these cells, before its owner's
abbrev pub started : ℕ → List Cell → Option View → View
started n cells owner = record { own = record { inst = n; cells = cells; locals = []; constants = [] }; owners = levels_of owner; modules = [] }

abbrev pub with_constants : View → List (Option Val) → List (List (Option Val)) → View
with_constants v constants modules = record v { own = record v.own { constants = constants }; modules = modules }

abbrev pub with_locals : View → List Local → View
with_locals v locals = record v { own = record v.own { locals = locals } }

-- one more local, the innermost
abbrev pub with_local : View → ℕ → Val → ℕ → View
with_local v name value number = with_locals v (record { name = name; value = value; number = number } ∷ v.own.locals)

abbrev pub view_from : List Level → List (List (Option Val)) → Option View
view_from [] modules = None
view_from (l ∷ ls) modules = Some (record { own = l; owners = ls; modules = modules })

-- the owner's view: all levels but the first
abbrev pub owner_of : View → Option View
owner_of v = view_from v.owners v.modules

abbrev pub owner_cells : List Level → List Cell
owner_cells [] = []
owner_cells (l ∷ ls) = l.cells

-- the value of what is looked at
abbrev pub look : View → At → Option Val
look v (at.Cell c) = option_map (λ cell. cell.value) (slice_get v.own.cells c)
look v (at.Local name) = option_map (λ l. l.value) (local_at v.own.locals name.0)
look v (at.Owner c) = option_map (λ cell. cell.value) (slice_get (owner_cells v.owners) c)

-- how often a cell changed, or the number of a local, which tell the values of one place apart; 0 where there is none
abbrev pub version : View → At → ℕ
version v (at.Cell c) = unwrap_or (option_map (λ cell. cell.count) (slice_get v.own.cells c)) 0
version v (at.Local name) = unwrap_or (option_map (λ l. l.number) (local_at v.own.locals name.0)) 0
version v (at.Owner c) = unwrap_or (option_map (λ cell. cell.count) (slice_get (owner_cells v.owners) c)) 0
