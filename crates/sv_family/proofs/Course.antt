-- What has to be so of a fact for a flush to keep it, one thing at a time.
use Rattle.std.proofs.Common.{◌≡◌, ◌⊎◌, ℕ, suc, ◌<◌, true, false, List, [], ◌∷◌, ◌++◌, length, Option, Some, None, Ok}
use Rattle.std.specs.Prelude.{slice_get, slice_set}
use Rattle.sv_code.specs.Names.{Each}
use Rattle.sv_code.specs.declared.program.Component.{Component}
use Rattle.sv_code.specs.declared.program.Program.{Program}
use Rattle.sv_code.specs.declared.tags.Tag.{Tag}
use Rattle.sv_family.specs.Family.{AreParents, HasHold, markup_in}
use Rattle.sv_family.specs.Kin.{Kin, Kins, tags_in, insts_now, parent_at, depth_at, is_lent, with_lent}
use Rattle.sv_family.specs.Pending.{Pending, Ascend, AreBefore}
use Rattle.sv_flush.specs.Creation.{cell_count}
use Rattle.sv_instance.specs.Standing.{Place}
use Rattle.sv_meaning.specs.Components.{component_at}
use Rattle.sv_numbered.specs.Numbered.{at, altered}
use Rattle.sv_parts.specs.declared.counters.Counters.{Counters}
use Rattle.sv_parts.specs.declared.state.Effect.{Effect}
use Rattle.sv_parts.specs.declared.state.Effect.TheVariants.{Create, Set, Destroy}
use Rattle.sv_parts.specs.declared.state.Given.{Given}
use Rattle.sv_parts.specs.declared.tally.Tally.{Tally}
use Rattle.sv_plan.specs.Patch.{After, patched}
use Rattle.sv_shapes.specs.Showing.{Showing, child_at, with_child, without_child, places_of, removed as unshown}
use Rattle.sv_places.specs.Any.{Any}
use Rattle.sv_states.specs.declared.states.TheConstants.{DEPTH_LIMIT}
use Rattle.sv_view.specs.Level.{View}
use Rattle.sv_view.specs.View.{insts}

-- an instance that was made just now
abbrev pub born_kin : Place → ℕ → Kin
born_kin place cells = record { place = place; cells = cells; lent = None }

-- where a child of an instance stands, and the root
abbrev pub child_place : Kins → Tag → (q t : ℕ) → View → Place
child_place ks tag q t view = record { component = tag.file; depth = suc (depth_at ks q); parent = Some q; standing = Some (record { tag = t; owner = view.own.inst }) }

abbrev pub root_place : Place
root_place = record { component = 0; depth = 1; parent = None; standing = None }

-- one more instance
abbrev pub with_born : Kins → Place → ℕ → Kins
with_born ks place cells = ks ++ Some (born_kin place cells) ∷ []

-- a fact of the effects that are to run, of one that was made just now, of those that are leaving, of the live instances, of what is shown and of the
-- next number
abbrev pub Fact : Type 1
Fact = Pending → Option ℕ → List ℕ → Kins → Showing → ℕ → Type 0

-- who leaves
pub record Leaves (P : Fact) : Type 0 where
  pub parents : (pend : Pending) (new : Option ℕ) (leaving : List ℕ) (ks : Kins) (s : Showing) (next : ℕ) → P pend new leaving ks s next → AreParents ks
  pub child_of : (pend : Pending) (leaving : List ℕ) (n place d : ℕ) (ks : Kins) (s : Showing) (next : ℕ) → AreBefore n pend → Any (λ l. l ≡ place) (places_of s n) → child_at s place ≡ Some d →
      P pend None leaving ks s next → parent_at ks d ≡ Some n
  pub leaves : (pend : Pending) (leaving : List ℕ) (q place n : ℕ) (ks : Kins) (s : Showing) (next : ℕ) → child_at s place ≡ Some n → parent_at ks n ≡ Some q → Any (λ l. l ≡ q) leaving → P pend None leaving ks s next →
      P pend None (n ∷ leaving) ks (without_child s place) next
  pub destroyed_child : (pend : Pending) (q place : ℕ) (es : List Effect) (n : ℕ) (ks : Kins) (s : Showing) (next : ℕ) → child_at s place ≡ Some n →
      P ((q, Destroy place ∷ es) ∷ pend) None [] ks s next → parent_at ks n ≡ Some q
  pub leaves_destroyed : (pend : Pending) (q place : ℕ) (es : List Effect) (n : ℕ) (ks : Kins) (s : Showing) (next : ℕ) → child_at s place ≡ Some n →
      P ((q, Destroy place ∷ es) ∷ pend) None [] ks s next → P ((q, es) ∷ pend) None (n ∷ []) ks (without_child s place) next
  pub goes : (pend : Pending) (leaving : List ℕ) (n : ℕ) (ks : Kins) (s : Showing) (next : ℕ) → AreBefore n pend → Each (λ l. l < n) leaving →
      ((place : ℕ) → Any (λ l. l ≡ place) (places_of s n) → child_at s place ≡ None) → P pend None (n ∷ leaving) ks s next → P pend None leaving (slice_set ks n None) (unshown s n) next

-- no child is made for a tag: its file is no component
abbrev pub MakesNone : Program → ℕ → Type 0
MakesNone p t = (tag : Tag) (c : Component) → slice_get p.tags t ≡ Some tag → component_at p tag.file ≡ Some c → ⊥

-- an effect by which the child at a place goes is done, where none stands there
abbrev pub Destroys : Fact → Type 0
Destroys P = (pend : Pending) (q place : ℕ) (es : List Effect) (ks : Kins) (s : Showing) (next : ℕ) → child_at s place ≡ None → P ((q, Destroy place ∷ es) ∷ pend) None [] ks s next →
    P ((q, es) ∷ pend) None [] ks (without_child s place) next

-- the instances whose effects are to run were made one after the other, and are all that there are at most
abbrev pub Ascends : Fact → Type 0
Ascends P = (pend : Pending) (new : Option ℕ) (leaving : List ℕ) (ks : Kins) (s : Showing) (next : ℕ) → P pend new leaving ks s next → Ascend pend × AreBefore (length ks) pend

-- effects that change no child, and those that are done
pub record Passes (p : Program) (P : Fact) : Type 0 where
  pub ends : (pend : Pending) (q : ℕ) (ks : Kins) (s : Showing) (next : ℕ) → P ((q, []) ∷ pend) None [] ks s next → P pend None [] ks s next
  pub sets : (pend : Pending) (q place : ℕ) (props : List Given) (view : Option View) (es : List Effect) (ks : Kins) (s : Showing) (next : ℕ) → P ((q, Set place props view ∷ es) ∷ pend) None [] ks s next →
      P ((q, es) ∷ pend) None [] ks s next
  pub creates : (pend : Pending) (q place t : ℕ) (props : List Given) (view : View) (es : List Effect) (ks : Kins) (s : Showing) (next : ℕ) → MakesNone p t →
      P ((q, Create place t props view ∷ es) ∷ pend) None [] ks s next → P ((q, es) ∷ pend) None [] ks s next
  pub destroys : Destroys P
  pub ascend : Ascends P

-- instances that are made, and views that are lent
pub record Makes (p : Program) (P : Fact) : Type 0 where
  pub for_create : (pend : Pending) (q place t : ℕ) (props : List Given) (view : View) (es : List Effect) (ks : Kins) (s : Showing) (next : ℕ) →
      P ((q, Create place t props view ∷ es) ∷ pend) None [] ks s next → HasHold p ks s q place view
  pub for_set : (pend : Pending) (q place : ℕ) (props : List Given) (view : View) (es : List Effect) (ks : Kins) (s : Showing) (next : ℕ) →
      P ((q, Set place props (Some view) ∷ es) ∷ pend) None [] ks s next → HasHold p ks s q place view
  pub makes : (pend : Pending) (q place t : ℕ) (props : List Given) (view : View) (es : List Effect) (ks : Kins) (s : Showing) (next : ℕ) (tag : Tag) (c : Component) → slice_get p.tags t ≡ Some tag →
      component_at p tag.file ≡ Some c → depth_at ks q < DEPTH_LIMIT → P ((q, Create place t props view ∷ es) ∷ pend) None [] ks s next →
      P ((q, es) ∷ pend) (Some (length ks)) [] (with_born ks (child_place ks tag q t view) (cell_count c)) (with_child s place (length ks)) next
      × HasHold p (with_born ks (child_place ks tag q t view) (cell_count c)) (with_child s place (length ks)) q place view
  pub roots : (ks : Kins) (s : Showing) (next : ℕ) (c : Component) → component_at p 0 ≡ Some c → P [] None [] ks s next →
      P [] None [] (with_born ks root_place (cell_count c)) s next
  pub lends : (pend : Pending) (new : Option ℕ) (q place n : ℕ) (kin : Kin) (view : View) (ks : Kins) (s : Showing) (next : ℕ) → (new ≡ None) ⊎ (new ≡ Some n) → HasHold p ks s q place view →
      child_at s place ≡ Some n → at ks n ≡ Some kin → is_lent p kin ≡ true → P pend new [] ks s next → P pend None [] (altered (with_lent view) ks n) s next
  pub spares : (pend : Pending) (n : ℕ) (kin : Kin) (ks : Kins) (s : Showing) (next : ℕ) → at ks n ≡ Some kin → is_lent p kin ≡ false → P pend (Some n) [] ks s next → P pend None [] ks s next

-- instances that are shown
pub record Shows (p : Program) (P : Fact) : Type 0 where
  pub shows : (pend : Pending) (n : ℕ) (kin : Kin) (view : View) (ks : Kins) (s : Showing) (counters : Counters) (tally : Tally) (after : After) → at ks n ≡ Some kin → insts view ≡ insts_now n kin →
      AreBefore n pend → patched p (tags_in ks view) n (markup_in p ks n) view s counters tally ≡ Ok after → P pend None [] ks s counters.next →
      P ((n, after.effects) ∷ pend) None [] ks after.showing after.counters.next

-- all of it
pub record Course (p : Program) (P : Fact) : Type 0 where
  pub leaves : Leaves P
  pub passes : Passes p P
  pub makes : Makes p P
  pub shows : Shows p P
