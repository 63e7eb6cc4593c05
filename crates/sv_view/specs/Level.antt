-- Views as contracts see them.
use Rattle.std.specs.Prelude.{ℕ, List, Option, refl}
use Rattle.std.specs.Coded.{Coded, code_by, coded×, coded_ℕ, coded_list, coded_option}
use Rattle.sv_value.specs.Value.{Val}
use Rattle.sv_value.specs.Stored.{val_code}
use Rattle.sv_view.specs.Cell.{Cell, cell_code}
use Rattle.sv_view.specs.Local.{Local, local_code}

-- what an instance gives to a view: its number, its cells, its row locals and slot props, the innermost first, and its constants
pub record Level : Type 0 where
  pub inst : ℕ
  pub cells : List Cell
  pub locals : List Local
  pub constants : List (Option Val)

-- an instance's own level, those of its owner, its owner's owner and so on, and the constants of the module files
pub record View : Type 0 where
  pub own : Level
  pub owners : List Level
  pub modules : List (List (Option Val))

abbrev pub level_code : Coded Level
level_code =
    code_by (ℕ × (List Cell × (List Local × List (Option Val)))) (coded× coded_ℕ (coded× (coded_list cell_code) (coded× (coded_list local_code) (coded_list (coded_option val_code)))))
    (λ l. (l.inst, (l.cells, (l.locals, l.constants)))) (λ p. record { inst = p.0; cells = p.1.0; locals = p.1.1.0; constants = p.1.1.1 }) (λ _. refl)

abbrev pub view_code : Coded View
view_code =
    code_by (Level × (List Level × List (List (Option Val)))) (coded× level_code (coded× (coded_list level_code) (coded_list (coded_list (coded_option val_code)))))
    (λ v. (v.own, (v.owners, v.modules))) (λ p. record { own = p.0; owners = p.1.0; modules = p.1.1 }) (λ _. refl)
