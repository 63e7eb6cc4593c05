-- A patch of a right shape is right.
use Rattle.std.specs.Prelude.{◌≡◌, ℕ, List, [], Option, Ok}
use Rattle.sv_code.specs.declared.fragments.Frag.{Frag}
use Rattle.sv_code.specs.declared.program.Program.{Program}
use Rattle.sv_parts.specs.Sides.{Sides}
use Rattle.sv_parts.specs.declared.state.State.{State}
use Rattle.sv_plan.specs.Plan.{plan_all}
use Rattle.sv_code.specs.Names.{Each}
use Rattle.sv_right.specs.Claims.{claims}
use Rattle.sv_right.specs.Fits.{Fits, AllFit}
use Rattle.sv_right.specs.Given.{AreBelow}
use Rattle.sv_right.specs.Later.{ViewCells, AreAllLater, GoesOn}
use Rattle.sv_right.specs.Right.{AreRight}
use Rattle.sv_shapes.specs.Typed.{laid_all}
use Rattle.sv_shapes.specs.declared.shape.Shape.{Shape}
use Rattle.sv_tokens.specs.declared.element.Typed.{Typed}
use Rattle.sv_view.specs.Level.{View}

-- shapes are right on a view, and all numbers in them were given before the next one
pub record Stands (p : Program) (tags : List (Option ℕ)) (frags : List Frag) (v : View) (next : ℕ) (shapes : List Shape) : Type 0 where
  pub right : AreRight p tags frags v shapes
  pub below : AreBelow next shapes

-- what is planned where nothing was shown is right
abbrev pub FirstIsRight : Type 0
FirstIsRight = (p : Program) (tags : List (Option ℕ)) (frags : List Frag) (at : Sides) (shapes : List Shape) (s s' : State) → AllFit p → Fits p frags →
    plan_all p tags frags at [] s ≡ Ok (shapes, s') → Stands p tags frags at.new s'.counters.next shapes

-- what is planned is right on the new view where what was shown was right on the old one, of which the new one is later
abbrev pub PatchesStayRight : Type 0
PatchesStayRight = (p : Program) (views : ViewCells) (tags : List (Option ℕ)) (frags : List Frag) (at : Sides) (olds shapes : List Shape) (s s' : State) → AllFit p → Fits p frags →
    AreAllLater views at.old at.new → Stands p tags frags at.old s.counters.next olds → plan_all p tags frags at olds s ≡ Ok (shapes, s') →
    Stands p tags frags at.new s'.counters.next shapes

-- and each component tag stands at a new place, or where it stood, on a later view
abbrev pub TagsGoOn : Type 0
TagsGoOn = (p : Program) (views : ViewCells) (tags : List (Option ℕ)) (frags : List Frag) (at : Sides) (olds shapes : List Shape) (s s' : State) → AllFit p → Fits p frags →
    AreAllLater views at.old at.new → Stands p tags frags at.old s.counters.next olds → plan_all p tags frags at olds s ≡ Ok (shapes, s') →
    Each (GoesOn views s.counters.next (claims p tags frags at.old olds)) (claims p tags frags at.new shapes)

-- a state that a user leaves in an element changes nothing of that
abbrev pub LeavingStaysRight : Type 0
LeavingStaysRight = (p : Program) (tags : List (Option ℕ)) (frags : List Frag) (v : View) (next mark : ℕ) (typed : Typed) (shapes : List Shape) →
    Stands p tags frags v next shapes → Stands p tags frags v next (laid_all mark typed shapes)
