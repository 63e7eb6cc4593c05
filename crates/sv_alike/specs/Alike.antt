-- When all instances are shown on views that agree with those on which evaluations are drawn.
use Rattle.std.specs.Prelude.{◌≡◌, ℕ, List, [], ◌∷◌, Option, Some, None}
use Rattle.sv_agree.specs.Agreeing.{AgreesFor}
use Rattle.sv_agree.specs.Scopes.{everything}
use Rattle.sv_alike.specs.Views.{Views}
use Rattle.sv_code.specs.Names.{Each}
use Rattle.sv_code.specs.Parts.{of_frags}
use Rattle.sv_code.specs.Within.{IsWithin}
use Rattle.sv_code.specs.declared.fragments.Frag.{Frag}
use Rattle.sv_code.specs.declared.program.Program.{Program}
use Rattle.sv_meaning.specs.Components.{component_of, markup_of}
use Rattle.sv_places.specs.Fits.{Fits}
use Rattle.sv_right.specs.Right.{AreRight}
use Rattle.sv_shapes.specs.Showing.{Showing, shown_of, child_at}
use Rattle.sv_shapes.specs.declared.shown.Shown.{Shown}
use Rattle.sv_stands.specs.Holds.{Hold, holds}
use Rattle.sv_view.specs.Level.{View}
use Rattle.sv_view.specs.View.{levels_of}
use Rattle.sv_world.specs.declared.world.World.{World}

-- the tags of the levels of a view
abbrev pub TagsOf : Type 0
TagsOf = View → List (Option ℕ)

-- the markup of an instance
abbrev pub markup_in : Program → World → ℕ → List Frag
markup_in p w n = markup_of (component_of p w n)

-- ---- views

-- the view of an instance before its owner's: there is one, it has no row locals, and its owners are the levels of the owner's
pub record ViewBefore (views : Views) (owner : Option View) (n : ℕ) : Type 0 where
  pub view : View
  pub is : views owner n ≡ Some view
  pub inst : view.own.inst ≡ n
  pub locals : view.own.locals ≡ []
  pub owners : view.owners ≡ levels_of owner

-- an instance has a view before each owner's, and what it gives to it is the same before all of them
pub record HasViews (views : Views) (n : ℕ) : Type 0 where
  pub there : (owner : Option View) → ViewBefore views owner n
  pub own : (owner owner' : Option View) → (there owner).view.own ≡ (there owner').view.own
  pub modules : (owner owner' : Option View) → (there owner).view.modules ≡ (there owner').view.modules

-- ---- what is shown

-- an instance is shown on a view that agrees with the one before an owner's, by the tags of the levels of that, however deep slots stand
pub record AgreesBefore (p : Program) (w : World) (tags_of : TagsOf) (showing : Showing) (views : Views) (owner : Option View) (tags : List (Option ℕ)) (n : ℕ) : Type 0 where
  pub shown : Shown
  pub is : shown_of showing n ≡ Some shown
  pub agrees : (v : View) → views owner n ≡ Some v → (depth : ℕ) → AgreesFor p depth everything (tags_of shown.view) tags (markup_in p w n) shown.view v

-- the child at a hold's place is, before the hold's view
abbrev pub IsChildAlike : Program → World → TagsOf → Showing → Views → Hold → Type 0
IsChildAlike p w tags_of showing views h = (n : ℕ) → child_at showing h.place ≡ Some n → AgreesBefore p w tags_of showing views (Some h.view) (Some h.tag ∷ h.tags) n

-- what is shown of an instance is right on its view, and its children are shown on views that agree with those that their tags lend now
pub record IsShownAlike (p : Program) (w : World) (tags_of : TagsOf) (showing : Showing) (views : Views) (n : ℕ) (x : Shown) : Type 0 where
  pub within : Each (IsWithin p) (of_frags (markup_in p w n))
  pub fits : Fits p (tags_of x.view) (markup_in p w n) x.parts
  pub right : AreRight p (tags_of x.view) (markup_in p w n) x.view x.parts
  pub before : HasViews views n
  pub children : Each (IsChildAlike p w tags_of showing views) (holds p (tags_of x.view) (markup_in p w n) x.view x.parts)

-- so it is with each instance that is shown
abbrev pub AreEachAlike : Program → World → TagsOf → Showing → Views → Type 0
AreEachAlike p w tags_of showing views = (n : ℕ) (x : Shown) → shown_of showing n ≡ Some x → IsShownAlike p w tags_of showing views n x

-- and the root is shown on a view that agrees with its own
pub record AreShownAlike (p : Program) (w : World) (tags_of : TagsOf) (showing : Showing) (views : Views) : Type 0 where
  pub each : AreEachAlike p w tags_of showing views
  pub root : AgreesBefore p w tags_of showing views None (None ∷ []) 1
