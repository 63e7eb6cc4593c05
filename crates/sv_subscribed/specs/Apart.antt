-- Components whose `$` names are apart: what is to hold their stores is declared once, and holds that of no other.
use Rattle.std.specs.Prelude.{◌≡◌, ◌≢◌, ◌<◌, ◌++◌, ℕ, List, [], ◌∷◌, Option, Some, None}
use Rattle.sv_code.specs.Names.{Each}
use Rattle.sv_code.specs.declared.functions.CodeDecl.{CodeDecl}
use Rattle.sv_code.specs.declared.functions.CodeStmt.{CodeStmt}
use Rattle.sv_code.specs.declared.functions.CodeStmtKind.{out-CodeStmtKind}
use Rattle.sv_code.specs.declared.known.Known.{Known}
use Rattle.sv_code.specs.declared.known.Known.TheVariants as known
use Rattle.sv_code.specs.declared.program.Component.{Component}
use Rattle.sv_code.specs.declared.program.Program.{Program}
use Rattle.sv_code.specs.declared.program.StoreCell.{StoreCell}
use Rattle.sv_flush.specs.Creation.{cell_count}
use Rattle.sv_meaning.specs.Components.{component_at}
use Rattle.sv_meaning.specs.Runs.{declarations}
use Rattle.sv_subscribed.specs.Holders.{IsAmong}

abbrev pub declared_by : Option (List CodeDecl) → List CodeDecl
declared_by None = []
declared_by (Some ds) = ds

-- what the top of a script declares, in order
abbrev pub declared_at_top : List CodeStmt → List CodeDecl
declared_at_top [] = []
declared_at_top (s ∷ stmts) = declared_by (declarations (out-CodeStmtKind s.kind)) ++ declared_at_top stmts

-- each is declared once
abbrev pub AreOnce : List CodeDecl → Type 0
AreOnce [] = Unit {0}
AreOnce (d ∷ ds) = Each (λ (e : CodeDecl). d.target ≢ e.target) ds × AreOnce ds

-- a variable or a constant of the file itself
abbrev pub IsOwn : Known → Type 0
IsOwn (known.Cell n) = Unit {0}
IsOwn (known.Constant n) = Unit {0}
IsOwn _ = ⊥

-- a declaration names the cell of the `$` name, if there is one, of the variable or constant that it declares
pub record IsTold (stores : List StoreCell) (d : CodeDecl) : Type 0 where
  pub named : (x : StoreCell) → IsAmong x stores → d.target ≡ x.holder → d.store ≡ Some x.cell
  pub names : (cell : ℕ) → d.store ≡ Some cell → (x : StoreCell) × (IsAmong x stores × ((x.cell ≡ cell) × (d.target ≡ x.holder)))
  pub own : (cell : ℕ) → d.store ≡ Some cell → IsOwn d.target

-- no two `$` names have one cell, or one variable or constant that holds their stores, and no `$` name holds another's
pub record HoldApart (stores : List StoreCell) : Type 0 where
  pub cells : (x y : StoreCell) → IsAmong x stores → IsAmong y stores → x.cell ≡ y.cell → x ≡ y
  pub holders : (x y : StoreCell) → IsAmong x stores → IsAmong y stores → IsOwn x.holder → x.holder ≡ y.holder → x ≡ y
  pub plain : (x y : StoreCell) → IsAmong x stores → IsAmong y stores → x.holder ≢ known.Cell y.cell

-- so it is with those of a component; none is held by the cell for the owner's view, each by one of its cells or constants or an import, and what is declared
-- tells
pub record IsApart (c : Component) : Type 0 where
  pub names : HoldApart c.stores
  pub viewless : (x : StoreCell) (cell : ℕ) → IsAmong x c.stores → c.view ≡ Some cell → x.holder ≢ known.Cell cell
  pub cells : (x : StoreCell) (n : ℕ) → IsAmong x c.stores → x.holder ≡ known.Cell n → n < cell_count c
  pub constants : (x : StoreCell) (n : ℕ) → IsAmong x c.stores → x.holder ≡ known.Constant n → n < c.constants
  pub told : Each (IsTold c.stores) (declared_at_top c.script)
  pub once : AreOnce (declared_at_top c.script)

-- and so with each component of a program
abbrev pub AreApart : Program → Type 0
AreApart p = (file : ℕ) (c : Component) → component_at p file ≡ Some c → IsApart c
