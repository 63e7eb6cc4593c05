-- What may be looked at in some markup, and views that agree at that.
use Rattle.std.specs.Prelude.{◌≡◌, ℕ, Bool, true, ◌||◌, List, [], Option, Some, None}
use Rattle.sv_base.specs.declared.names.Name.{Name}
use Rattle.sv_code.specs.Content as content
use Rattle.sv_code.specs.Content.{Look, IsSeenBy, IsTold, is_bound}
use Rattle.sv_code.specs.Names.{Each}
use Rattle.sv_code.specs.Parts as parts
use Rattle.sv_code.specs.Within.{IsWithin, has_cell, has_local}
use Rattle.sv_code.specs.declared.fragments.Frag.{Frag}
use Rattle.sv_code.specs.declared.parts.Reading.{Reading}
use Rattle.sv_code.specs.declared.program.Program.{Program}
use Rattle.sv_local.specs.Looks.{AreOfOne}
use Rattle.sv_view.specs.Level.{View}
use Rattle.sv_view.specs.View.{look}
use Rattle.sv_view.specs.declared.view.At.TheVariants as at

-- the reading within which looks stay, if one bounds them, and the names that rows and slot props declare round a place
pub record Scope : Type 0 where
  pub reading : Option Reading
  pub bound : List Name

-- anything may be looked at
abbrev pub everything : Scope
everything = record { reading = None; bound = [] }

-- nothing may be looked at but what a reading has
abbrev pub only : Reading → Scope
only reads = record { reading = Some reads; bound = [] }

abbrev pub may_read_cell : Option Reading → ℕ → Bool
may_read_cell None n = true
may_read_cell (Some reads) n = has_cell reads n

abbrev pub may_read_local : Option Reading → Name → Bool
may_read_local None x = true
may_read_local (Some reads) x = has_local reads x

-- two views of one instance give the same values to what may be looked at
pub record AgreesAt (scope : Scope) (v v' : View) : Type 0 where
  pub one : AreOfOne v v'
  pub cells : (n : ℕ) → may_read_cell scope.reading n ≡ true → look v (at.Cell n) ≡ look v' (at.Cell n)
  pub locals : (x : Name) → (is_bound x scope.bound || may_read_local scope.reading x) ≡ true → look v (at.Local x) ≡ look v' (at.Local x)

-- a look stays within a reading, and looks at whatever the thing that it stands for looks at
abbrev pub StaysIn : Program → Option Reading → Look → Type 0
StaysIn p None look = Unit {0}
StaysIn p (Some reads) look = IsSeenBy reads look × IsTold p.tags p.handlers look

-- the parts of some fragments read nothing but what they look at, and all looks in there stay within a scope
pub record FitsIn (p : Program) (scope : Scope) (frags : List Frag) : Type 0 where
  pub within : Each (IsWithin p) (parts.of_frags frags)
  pub looks : Each (StaysIn p scope.reading) (content.of_frags frags scope.bound)
