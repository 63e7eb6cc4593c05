-- What compiling promises of the parts of a program: the code of each reads nothing but what the part looks at.
use Rattle.std.specs.Prelude.{◌≡◌, ℕ, nat_eq, nat_le, nat_lt, Bool, true, ◌&&◌, Some, slice_get}
use Rattle.std.specs.List.{list_any}
use Rattle.sv_base.specs.declared.names.Name.{Name}
use Rattle.sv_code.specs.declared.functions.Function.{Function}
use Rattle.sv_code.specs.declared.known.Known.{Known}
use Rattle.sv_code.specs.declared.known.Known.TheVariants as known
use Rattle.sv_code.specs.declared.parts.Arrows.{Arrows}
use Rattle.sv_code.specs.declared.parts.Part.{Part}
use Rattle.sv_code.specs.declared.parts.Reading.{Reading}
use Rattle.sv_code.specs.declared.program.Program.{Program}
use Rattle.sv_code.specs.Names.{Each, of_code, of_body}
use Rattle.sv_code.specs.Parts.{of_program}

-- whether a function, by its number, is one of some arrows
abbrev pub is_among : ℕ → Arrows → Bool
is_among n arrows = nat_le arrows.from n && nat_lt n arrows.to

abbrev pub has_local : Reading → Name → Bool
has_local reads x = list_any (λ y. nat_eq x.0 y.0) reads.locals

abbrev pub has_cell : Reading → ℕ → Bool
has_cell reads n = list_any (nat_eq n) reads.cells

-- a name is among those that are looked at, where it is a cell or a local
abbrev pub IsLookedAt : Reading → Known → Type 0
IsLookedAt reads (known.Cell n) = has_cell reads n ≡ true
IsLookedAt reads (known.Local x) = has_local reads x ≡ true
IsLookedAt reads _ = Unit {0}

-- the same of cells alone: the locals in the body of a function are its own
abbrev pub IsCellLookedAt : Reading → Known → Type 0
IsCellLookedAt reads (known.Cell n) = has_cell reads n ≡ true
IsCellLookedAt reads _ = Unit {0}

-- a part reads nothing but what it looks at, in the arrows that are written in it too
pub record IsWithin (program : Program) (part : Part) : Type 0 where
  pub code : Each (IsLookedAt part.reads) (of_code program.functions part.code)
  pub bodies : (n : ℕ) (f : Function) → is_among n part.arrows ≡ true → slice_get program.functions n ≡ Some f → Each (IsCellLookedAt part.reads) (of_body program.functions f.body)

-- each part of a program does
abbrev pub ArePartsWithin : Program → Type 0
ArePartsWithin program = Each (IsWithin program) (of_program program)
