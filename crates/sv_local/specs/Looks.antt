-- Views that are alike at what a part reads, and at what it looks at.
use Rattle.std.specs.Prelude.{◌≡◌, ℕ, true, Some, slice_get}
use Rattle.sv_base.specs.declared.names.Name.{Name}
use Rattle.sv_code.specs.Names.{Each, of_code, of_body}
use Rattle.sv_code.specs.Within.{is_among, has_cell, has_local}
use Rattle.sv_code.specs.declared.functions.Function.{Function}
use Rattle.sv_code.specs.declared.known.Known.{Known}
use Rattle.sv_code.specs.declared.known.Known.TheVariants as known
use Rattle.sv_code.specs.declared.parts.Part.{Part}
use Rattle.sv_code.specs.declared.parts.Reading.{Reading}
use Rattle.sv_code.specs.declared.program.Program.{Program}
use Rattle.sv_view.specs.Level.{View}
use Rattle.sv_view.specs.View.{look}
use Rattle.sv_view.specs.declared.view.At.TheVariants as at

-- two views give a name the same value, where it is a cell or a local
abbrev pub IsAlike : View → View → Known → Type 0
IsAlike v v' (known.Cell n) = look v (at.Cell n) ≡ look v' (at.Cell n)
IsAlike v v' (known.Local x) = look v (at.Local x) ≡ look v' (at.Local x)
IsAlike v v' _ = Unit {0}

-- the same of cells alone: the locals in the body of a function are its own
abbrev pub IsCellAlike : View → View → Known → Type 0
IsCellAlike v v' (known.Cell n) = look v (at.Cell n) ≡ look v' (at.Cell n)
IsCellAlike v v' _ = Unit {0}

-- what never changes while an instance lives
pub record AreOfOne (v v' : View) : Type 0 where
  pub inst : v.own.inst ≡ v'.own.inst
  pub constants : v.own.constants ≡ v'.own.constants
  pub modules : v.modules ≡ v'.modules

-- views of one instance that are alike at each name that a part reads, and at each cell that the arrows that are written in it read
pub record AreAlike (program : Program) (part : Part) (v v' : View) : Type 0 where
  pub one : AreOfOne v v'
  pub code : Each (IsAlike v v') (of_code program.functions part.code)
  pub bodies : (n : ℕ) (f : Function) → is_among n part.arrows ≡ true → slice_get program.functions n ≡ Some f → Each (IsCellAlike v v') (of_body program.functions f.body)

-- two views of one instance give the same values to what is looked at
pub record AreAlikeAt (reads : Reading) (v v' : View) : Type 0 where
  pub one : AreOfOne v v'
  pub cells : (n : ℕ) → has_cell reads n ≡ true → look v (at.Cell n) ≡ look v' (at.Cell n)
  pub locals : (x : Name) → has_local reads x ≡ true → look v (at.Local x) ≡ look v' (at.Local x)
