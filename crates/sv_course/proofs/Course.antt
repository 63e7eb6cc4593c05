-- What has to be so of a fact for a flush to keep it, one thing at a time, where it is told on what view each instance is shown.
use Rattle.std.proofs.Common.{◌≡◌, ◌<◌, ℕ, true, false, List, [], ◌∷◌, length, Option, Some, None, Ok}
use Rattle.sv_course.specs.Watched.{IsNow}
use Rattle.sv_code.specs.declared.program.Component.{Component}
use Rattle.sv_code.specs.declared.program.Program.{Program}
use Rattle.sv_code.specs.declared.tags.Tag.{Tag}
use Rattle.sv_family.proofs.Course.{Fact, Leaves, MakesNone, child_place, root_place, with_born}
use Rattle.sv_family.specs.Family.{HasHold, markup_in}
use Rattle.sv_family.specs.Kin.{Kin, Kins, tags_in, insts_now, depth_at, is_lent, with_lent}
use Rattle.sv_family.specs.Pending.{Pending, Ascend, AreBefore}
use Rattle.sv_flush.specs.Creation.{cell_count}
use Rattle.sv_meaning.specs.Components.{component_at}
use Rattle.sv_numbered.specs.Numbered.{at, altered}
use Rattle.sv_parts.specs.declared.counters.Counters.{Counters}
use Rattle.sv_parts.specs.declared.state.Effect.{Effect}
use Rattle.sv_parts.specs.declared.state.Effect.TheVariants.{Create, Set, Destroy}
use Rattle.sv_parts.specs.declared.state.Given.{Given}
use Rattle.sv_parts.specs.declared.tally.Tally.{Tally}
use Rattle.sv_plan.specs.Patch.{After, patched}
use Rattle.std.specs.Prelude.{slice_get}
use Rattle.sv_shapes.specs.Showing.{Showing, child_at, with_child, without_child}
use Rattle.sv_states.specs.declared.states.TheConstants.{DEPTH_LIMIT}
use Rattle.sv_value.specs.Value.{Val}
use Rattle.sv_view.specs.Level.{View}
use Rattle.sv_view.specs.View.{insts}

-- effects that are done, or change no child
pub record Passes (p : Program) (P : Fact) : Type 0 where
  pub ends : (pend : Pending) (q : ℕ) (ks : Kins) (s : Showing) (next : ℕ) → P ((q, []) ∷ pend) None [] ks s next → P pend None [] ks s next
  pub creates : (pend : Pending) (q place t : ℕ) (props : List Given) (view : View) (es : List Effect) (ks : Kins) (s : Showing) (next : ℕ) → MakesNone p t →
      P ((q, Create place t props view ∷ es) ∷ pend) None [] ks s next → P ((q, es) ∷ pend) None [] ks s next
  pub destroys : (pend : Pending) (q place : ℕ) (es : List Effect) (ks : Kins) (s : Showing) (next : ℕ) → child_at s place ≡ None → P ((q, Destroy place ∷ es) ∷ pend) None [] ks s next →
      P ((q, es) ∷ pend) None [] ks (without_child s place) next
  pub ascend : (pend : Pending) (new : Option ℕ) (leaving : List ℕ) (ks : Kins) (s : Showing) (next : ℕ) → P pend new leaving ks s next → Ascend pend × AreBefore (length ks) pend

-- a child gets what moved, and is lent the view, if one is handed on and it has a cell for it
pub record Sets (p : Program) (P : Fact) : Type 0 where
  pub no_view : (pend : Pending) (q place : ℕ) (props : List Given) (es : List Effect) (ks : Kins) (s : Showing) (next : ℕ) → P ((q, Set place props None ∷ es) ∷ pend) None [] ks s next →
      P ((q, es) ∷ pend) None [] ks s next
  pub nobody : (pend : Pending) (q place : ℕ) (props : List Given) (view : Option View) (es : List Effect) (ks : Kins) (s : Showing) (next : ℕ) → child_at s place ≡ None →
      P ((q, Set place props view ∷ es) ∷ pend) None [] ks s next → P ((q, es) ∷ pend) None [] ks s next
  pub dead : (pend : Pending) (q place n : ℕ) (props : List Given) (view : Option View) (es : List Effect) (ks : Kins) (s : Showing) (next : ℕ) → child_at s place ≡ Some n → at ks n ≡ None →
      P ((q, Set place props view ∷ es) ∷ pend) None [] ks s next → P ((q, es) ∷ pend) None [] ks s next
  pub spares : (pend : Pending) (q place n : ℕ) (kin : Kin) (props : List Given) (view : View) (es : List Effect) (ks : Kins) (s : Showing) (next : ℕ) → child_at s place ≡ Some n → at ks n ≡ Some kin → is_lent p kin ≡ false →
      P ((q, Set place props (Some view) ∷ es) ∷ pend) None [] ks s next → P ((q, es) ∷ pend) None [] ks s next
  pub lends : (pend : Pending) (q place n : ℕ) (kin : Kin) (props : List Given) (view : View) (es : List Effect) (ks : Kins) (s : Showing) (next : ℕ) → child_at s place ≡ Some n → at ks n ≡ Some kin → is_lent p kin ≡ true →
      P ((q, Set place props (Some view) ∷ es) ∷ pend) None [] ks s next → P ((q, es) ∷ pend) None [] (altered (with_lent view) ks n) s next

-- instances that are made: a child stands at its place, and is lent the view on which its tag stands, if it has a cell for it
pub record Makes (p : Program) (P : Fact) : Type 0 where
  pub makes : (pend : Pending) (q place t : ℕ) (props : List Given) (view : View) (es : List Effect) (ks : Kins) (s : Showing) (next : ℕ) (tag : Tag) (c : Component) → slice_get p.tags t ≡ Some tag →
      component_at p tag.file ≡ Some c → depth_at ks q < DEPTH_LIMIT → P ((q, Create place t props view ∷ es) ∷ pend) None [] ks s next →
      P ((q, es) ∷ pend) (Some (length ks)) [] (with_born ks (child_place ks tag q t view) (cell_count c)) (with_child s place (length ks)) next
      × HasHold p (with_born ks (child_place ks tag q t view) (cell_count c)) (with_child s place (length ks)) q place view
  pub roots : (ks : Kins) (s : Showing) (next : ℕ) (c : Component) → component_at p 0 ≡ Some c → P [] None [] ks s next → P [] None [] (with_born ks root_place (cell_count c)) s next
  pub lends : (pend : Pending) (q place n : ℕ) (kin : Kin) (view : View) (ks : Kins) (s : Showing) (next : ℕ) → HasHold p ks s q place view → child_at s place ≡ Some n → at ks n ≡ Some kin → is_lent p kin ≡ true →
      P pend (Some n) [] ks s next → P pend None [] (altered (with_lent view) ks n) s next
  pub spares : (pend : Pending) (n : ℕ) (kin : Kin) (ks : Kins) (s : Showing) (next : ℕ) → at ks n ≡ Some kin → is_lent p kin ≡ false → P pend (Some n) [] ks s next → P pend None [] ks s next

-- instances that are shown
pub record Shows (p : Program) (ms : List (List (Option Val))) (P : Fact) : Type 0 where
  pub shows : (pend : Pending) (n : ℕ) (kin : Kin) (view : View) (ks : Kins) (s : Showing) (counters : Counters) (tally : Tally) (after : After) → at ks n ≡ Some kin → insts view ≡ insts_now n kin →
      IsNow p ms ks s n kin view → AreBefore n pend → patched p (tags_in ks view) n (markup_in p ks n) view s counters tally ≡ Ok after → P pend None [] ks s counters.next →
      P ((n, after.effects) ∷ pend) None [] ks after.showing after.counters.next

-- all of it
pub record Course (p : Program) (ms : List (List (Option Val))) (P : Fact) : Type 0 where
  pub leaves : Leaves P
  pub passes : Passes p P
  pub sets : Sets p P
  pub makes : Makes p P
  pub shows : Shows p ms P
