-- What is shown of each instance is true: it is right on the view on which the instance is shown, and the views that its tags lent to their children agree with
-- those on which the tags stand, at all that their content looks at.
use Rattle.std.specs.Prelude.{◌≡◌, ◌⊎◌, ℕ, true, List, [], ◌∷◌, Option, Some, slice_get}
use Rattle.sv_agree.specs.Agreeing.{AgreesFor}
use Rattle.sv_agree.specs.Scopes.{only}
use Rattle.sv_code.specs.Names.{Each}
use Rattle.sv_code.specs.declared.program.Program.{Program}
use Rattle.sv_code.specs.declared.tags.Tag.{Tag}
use Rattle.sv_course.specs.Watched.{view_cells}
use Rattle.sv_family.specs.Family.{markup_in, holds_in}
use Rattle.sv_family.specs.Kin.{Kin, Kins, tags_in, is_lent}
use Rattle.sv_family.specs.Pending.{Pending, pending_of}
use Rattle.sv_numbered.specs.Numbered.{at}
use Rattle.sv_places.specs.Any.{Any}
use Rattle.sv_right.specs.Later.{AreOwnersLater, AreAllLater}
use Rattle.sv_right.specs.Staying.{Stands}
use Rattle.sv_shapes.specs.Showing.{Showing, shown_of, child_at}
use Rattle.sv_shapes.specs.declared.shown.Shown.{Shown}
use Rattle.sv_shown.specs.Chains.{owner_at, IsChain, AreStanding}
use Rattle.sv_stands.specs.Holds.{Hold}
use Rattle.sv_stands.specs.Lent.{Lends}
use Rattle.sv_value.specs.Value.{Val}
use Rattle.sv_view.specs.Level.{View}
use Rattle.sv_view.specs.View.{levels_of, insts}

-- the constants of module files
abbrev pub Modules : Type 0
Modules = List (List (Option Val))

-- what is shown of an instance is right on its own view, all numbers in it were given, and its levels are those of the owners, one after the other
pub record IsRight (p : Program) (ms : Modules) (ks : Kins) (next n : ℕ) (x : Shown) : Type 0 where
  pub stands : Stands p (tags_in ks x.view) (markup_in p ks n) x.view next x.parts
  pub inst : x.view.own.inst ≡ n
  pub locals : x.view.own.locals ≡ []
  pub modules : x.view.modules ≡ ms
  pub chain : IsChain ks (insts x.view)

-- the levels of the view that an instance was lent are later than the owners' levels on which it is shown
abbrev pub IsBehind : Program → Kins → Modules → Kin → Shown → Type 0
IsBehind p ks ms kin x = AreOwnersLater (view_cells p ks) ms ms x.view.owners (levels_of kin.lent)

-- who was lent a view has a cell for it, and the view's levels are those of its owners
pub record IsLentWell (p : Program) (ms : Modules) (ks : Kins) (n : ℕ) (kin : Kin) (view : View) : Type 0 where
  pub takes : is_lent p kin ≡ true
  pub modules : view.modules ≡ ms
  pub chain : IsChain ks (n ∷ insts view)

-- the view that a tag lent agrees with the one on which the tag stands, at all that its content looks at, however deep slots stand in there
abbrev pub Agrees : Program → Kins → Hold → View → Type 0
Agrees p ks h view = (t : Tag) → slice_get p.tags h.tag ≡ Some t → (depth : ℕ) → AgreesFor p depth (only t.reads) (tags_in ks view) h.tags t.content view h.view

-- the tag stands on a later view than the one that it lent; and that one agrees, or the later one is still to be lent
pub record IsFollowed (p : Program) (pend : Pending) (ks : Kins) (q : ℕ) (h : Hold) (view : View) : Type 0 where
  pub later : AreAllLater (view_cells p ks) view h.view
  pub agrees : Any (Lends h) (pending_of pend q) ⊎ Agrees p ks h view

-- so it is with the child at a tag's place, which stands in the markup of the instance on whose view the tag stands
pub record IsHeld (p : Program) (pend : Pending) (ks : Kins) (q : ℕ) (h : Hold) (n : ℕ) (kin : Kin) : Type 0 where
  pub owner : owner_at ks n ≡ Some h.view.own.inst
  pub followed : (view : View) → kin.lent ≡ Some view → IsFollowed p pend ks q h view

abbrev pub ChildIsHeld : Program → Pending → Kins → Showing → ℕ → Hold → Type 0
ChildIsHeld p pend ks s q h = (n : ℕ) (kin : Kin) → child_at s h.place ≡ Some n → at ks n ≡ Some kin → IsHeld p pend ks q h n kin

-- all of it, while some effects are still to run
pub record AreTrue (p : Program) (ms : Modules) (pend : Pending) (ks : Kins) (s : Showing) (next : ℕ) : Type 0 where
  pub standing : AreStanding p ks
  pub right : (n : ℕ) (x : Shown) → shown_of s n ≡ Some x → IsRight p ms ks next n x
  pub behind : (n : ℕ) (kin : Kin) (x : Shown) → at ks n ≡ Some kin → shown_of s n ≡ Some x → IsBehind p ks ms kin x
  pub lent : (n : ℕ) (kin : Kin) (view : View) → at ks n ≡ Some kin → kin.lent ≡ Some view → IsLentWell p ms ks n kin view
  pub held : (q : ℕ) (x : Shown) → shown_of s q ≡ Some x → Each (ChildIsHeld p pend ks s q) (holds_in p ks q x)
