-- Where the instances of a page stand: each in what its parent shows, at a place that no other one has, and on views of those above it.
use Rattle.std.specs.Prelude.{◌≡◌, ◌≢◌, ◌⊎◌, ℕ, suc, ◌+◌, ◌<◌, ◌≤◌, nat_eq, true, Bool, List, [], ◌∷◌, length, Option, Some, None, is_some, slice_get}
use Rattle.sv_code.specs.Names.{Each}
use Rattle.sv_code.specs.declared.fragments.Frag.{Frag}
use Rattle.sv_code.specs.declared.program.Component.{Component}
use Rattle.sv_code.specs.declared.program.Program.{Program}
use Rattle.sv_code.specs.declared.tags.Tag.{Tag}
use Rattle.sv_family.specs.Kin.{Kin, Kins, kins, tag_at, tags_in, tags_now, parent_at, depth_at, IsBelow, is_lent}
use Rattle.sv_family.specs.Numbers.{AreNumbers}
use Rattle.sv_family.specs.Pending.{Pending, pending_of, Ascend, AreBefore}
use Rattle.sv_flush.specs.Creation.{cell_count}
use Rattle.sv_flush.specs.Outcome.{Outcome, Done, Halted}
use Rattle.sv_flush.specs.declared.page.Page.{Page}
use Rattle.sv_meaning.specs.Components.{component_at, markup_of}
use Rattle.sv_numbered.specs.Numbered.{at}
use Rattle.sv_parts.specs.declared.state.Effect.{Effect}
use Rattle.sv_places.specs.Fits.{Fits}
use Rattle.sv_places.specs.Keeping.{created_at, destroyed_at, parts_of}
use Rattle.sv_places.specs.Numbers.{count, given}
use Rattle.sv_shapes.specs.Places.{places_all}
use Rattle.sv_shapes.specs.Showing.{Showing, shown_of, child_at}
use Rattle.sv_shapes.specs.declared.shown.Shown.{Shown}
use Rattle.sv_stands.specs.Holds.{Hold, holds}
use Rattle.sv_places.specs.Any.{Any}
use Rattle.sv_stands.specs.Lent.{IsFor, Makes}
use Rattle.sv_stands.specs.Standing.{OwnersFor, content_in}
use Rattle.sv_states.specs.declared.states.TheConstants.{DEPTH_LIMIT}
use Rattle.sv_tokens.specs.Counting.{one}
use Rattle.sv_view.specs.Level.{View}
use Rattle.sv_view.specs.View.{insts}

-- entries by ascending number, each number once
abbrev pub AreSorted : {A : Type 0} → List (ℕ × A) → Type 0
AreSorted [] = Unit {0}
AreSorted (e ∷ es) = Each (λ f. e.0 < f.0) es × AreSorted es

-- ---- instances

abbrev pub component_for : Program → Option Kin → Option Component
component_for p None = None
component_for p (Some k) = component_at p k.place.component

-- the markup of an instance
abbrev pub markup_in : Program → Kins → ℕ → List Frag
markup_in p ks n = markup_of (component_for p (at ks n))

-- an instance has the cells of its component
abbrev pub HaveCells : Program → Kins → Type 0
HaveCells p ks = (n : ℕ) (kin : Kin) (c : Component) → at ks n ≡ Some kin → component_at p kin.place.component ≡ Some c → kin.cells ≡ cell_count c

-- the parent of an instance was made before it, is live, and is one less deep; none is too deep; and who stands at a tag has a parent
pub record AreParents (ks : Kins) : Type 0 where
  pub earlier : (n q : ℕ) → parent_at ks n ≡ Some q → q < n
  pub live : (n q : ℕ) → parent_at ks n ≡ Some q → is_some (at ks q) ≡ true
  pub deeper : (n q : ℕ) → parent_at ks n ≡ Some q → depth_at ks n ≡ suc (depth_at ks q)
  pub shallow : (n : ℕ) → depth_at ks n ≤ DEPTH_LIMIT
  pub tagged : (n k : ℕ) → tag_at ks n ≡ Some k → is_some (parent_at ks n) ≡ true

-- ---- views

-- the instances of some levels are above an instance
abbrev pub AreAbove : Kins → ℕ → List ℕ → Type 0
AreAbove ks n list = Each (λ o. IsBelow ks o n) list

-- or are the instance itself
abbrev pub AreAround : Kins → ℕ → List ℕ → Type 0
AreAround ks n list = Each (λ o. (o ≡ n) ⊎ IsBelow ks o n) list

-- an instance that is shown is live, on a view of itself and those above it, with the owners that its markup needs and the tags that its present view has,
-- and what is shown fits its markup
pub record IsShown (p : Program) (ks : Kins) (n : ℕ) (x : Shown) : Type 0 where
  pub kin : Kin
  pub live : at ks n ≡ Some kin
  pub around : AreAround ks n (insts x.view)
  pub owners : OwnersFor p (markup_in p ks n) (tags_in ks x.view) x.view.owners
  pub tags : tags_in ks x.view ≡ tags_now ks n kin
  pub fits : Fits p (tags_in ks x.view) (markup_in p ks n) x.parts

-- ---- places

-- whether the child at a place is one of an instance
abbrev pub is_parent : ℕ → Option ℕ → Bool
is_parent q (Some o) = nat_eq q o
is_parent q None = Bool.false

abbrev pub is_child_of : Kins → ℕ → Option ℕ → Bool
is_child_of ks q None = Bool.false
is_child_of ks q (Some n) = is_parent q (parent_at ks n)

-- how often, 0 or 1, a child of an instance stands at a place
abbrev pub kid : Kins → Showing → ℕ → ℕ → ℕ
kid ks s q place = one (is_child_of ks q (child_at s place))

-- how often a place stands in what is shown of an instance, or is to be left
abbrev pub load : Pending → Showing → ℕ → ℕ → ℕ
load pend s q place = count place (places_all (parts_of s q)) + count place (destroyed_at (pending_of pend q))

-- how often a child is still to be made at a place of an instance
abbrev pub due : Pending → ℕ → ℕ → ℕ
due pend q place = count place (created_at (pending_of pend q))

-- places that are shown, or are to be left, were given once; the children of an instance stand at such places of it, or are to be made there
pub record ArePlaces (pend : Pending) (ks : Kins) (s : Showing) (next : ℕ) : Type 0 where
  pub once : (q place : ℕ) → load pend s q place ≤ given 0 next place
  pub apart : (q r place : ℕ) → q ≢ r → load pend s q place + load pend s r place ≤ given 0 next place
  pub kids : (q place : ℕ) → kid ks s q place + due pend q place ≤ load pend s q place
  pub due : (q place : ℕ) → due pend q place ≤ count place (places_all (parts_of s q))

-- who stands at a place is a live child of some instance, and stands at no other place; each live instance that has a parent stands at one, but for those
-- that are leaving, which stand nowhere
pub record AreChildren (leaving : List ℕ) (ks : Kins) (s : Showing) : Type 0 where
  pub sorted : AreSorted s.children
  pub parent : (place n : ℕ) → child_at s place ≡ Some n → is_some (parent_at ks n) ≡ true
  pub once : (a b n : ℕ) → child_at s a ≡ Some n → child_at s b ≡ Some n → a ≡ b
  pub left : (place n : ℕ) → Any (λ l. l ≡ n) leaving → child_at s place ≡ Some n → ⊥
  pub stand : (n q : ℕ) → parent_at ks n ≡ Some q → Any (λ l. l ≡ n) leaving ⊎ ((place : ℕ) × (child_at s place ≡ Some n))

-- ---- tags at which children stand

-- a child at a place of a tag stands at that tag, and the view that it was lent has the tags on which the tag stands
pub record IsKept (ks : Kins) (h : Hold) (kin : Kin) (n : ℕ) : Type 0 where
  pub tag : tag_at ks n ≡ Some h.tag
  pub tags : (v : View) → kin.lent ≡ Some v → tags_in ks v ≡ h.tags

abbrev pub HoldIsKept : Kins → Showing → Hold → Type 0
HoldIsKept ks s h = (n : ℕ) (kin : Kin) → child_at s h.place ≡ Some n → at ks n ≡ Some kin → IsKept ks h kin n

-- the tags in what is shown of an instance
abbrev pub holds_in : Program → Kins → ℕ → Shown → List Hold
holds_in p ks n x = holds p (tags_in ks x.view) (markup_in p ks n) x.view x.parts

abbrev pub AreKept : Program → Kins → Showing → Type 0
AreKept p ks s = (n : ℕ) (x : Shown) → shown_of s n ≡ Some x → Each (HoldIsKept ks s) (holds_in p ks n x)

-- where the tag's file is a component, a child stands at its place, or one of some effects makes it
abbrev pub IsFilled : Program → Showing → List Effect → Hold → Type 0
IsFilled p s effects h = (t : Tag) (c : Component) → slice_get p.tags h.tag ≡ Some t → component_at p t.file ≡ Some c → (is_some (child_at s h.place) ≡ true) ⊎ Any (Makes h) effects

-- so it is of each tag in what is shown, but for instances that are leaving
abbrev pub AreFilled : Program → Pending → List ℕ → Kins → Showing → Type 0
AreFilled p pend leaving ks s = (q : ℕ) (x : Shown) → shown_of s q ≡ Some x → Any (λ l. l ≡ q) leaving ⊎ Each (IsFilled p s (pending_of pend q)) (holds_in p ks q x)

-- the tag at a place of an instance stands on this view
pub record HasHold (p : Program) (ks : Kins) (s : Showing) (q place : ℕ) (view : View) : Type 0 where
  pub shown : Shown
  pub is : shown_of s q ≡ Some shown
  pub hold : Any (λ h. (h.place ≡ place) × (h.view ≡ view)) (holds_in p ks q shown)

-- effects that are still to run are for tags that there are, of instances that were made, each after those further out
pub record ArePending (p : Program) (pend : Pending) (ks : Kins) (s : Showing) : Type 0 where
  pub ascend : Ascend pend
  pub made : AreBefore (length ks) pend
  pub for : Each (λ e. (x : Shown) → shown_of s e.0 ≡ Some x → Each (IsFor (holds_in p ks e.0 x)) e.1) pend
  pub shown : Each (λ e. e.1 ≡ [] ⊎ (is_some (shown_of s e.0) ≡ true)) pend

-- ---- views that are lent

-- the view that an instance was lent is one of instances above it, with the owners that the content of its tag needs; who has a cell for it was lent one,
-- but for one that was made just now, which isn't shown yet
pub record AreLent (p : Program) (new : Option ℕ) (ks : Kins) (s : Showing) : Type 0 where
  pub above : (n : ℕ) (kin : Kin) (v : View) → at ks n ≡ Some kin → kin.lent ≡ Some v → AreAbove ks n (insts v)
  pub owners : (n k : ℕ) (kin : Kin) (v : View) → at ks n ≡ Some kin → kin.lent ≡ Some v → tag_at ks n ≡ Some k → OwnersFor p (content_in p k) (tags_in ks v) v.owners
  pub there : (n : ℕ) (kin : Kin) → at ks n ≡ Some kin → is_some kin.place.parent ≡ true → is_lent p kin ≡ true → (new ≡ Some n) ⊎ (is_some kin.lent ≡ true)
  pub unseen : (n : ℕ) → new ≡ Some n → shown_of s n ≡ None

-- ---- pages

-- while some effects are still to run, one instance may have been made just now, and some are leaving
pub record Family (p : Program) (pend : Pending) (new : Option ℕ) (leaving : List ℕ) (ks : Kins) (s : Showing) (next : ℕ) : Type 0 where
  pub parents : AreParents ks
  pub cells : HaveCells p ks
  pub lent : AreLent p new ks s
  pub sorted : AreSorted s.shown
  pub shown : (n : ℕ) (x : Shown) → shown_of s n ≡ Some x → IsShown p ks n x
  pub places : ArePlaces pend ks s next
  pub children : AreChildren leaving ks s
  pub kept : AreKept p ks s
  pub pending : ArePending p pend ks s

-- so it is on a page between turns, each mark and each place stands once, and each tag of a component has its child
abbrev pub IsFamily : Program → Page → Type 0
IsFamily p m = Family p [] None [] (kins m.world.states) m.showing m.counters.next × AreNumbers m.showing m.counters.next × AreFilled p [] [] (kins m.world.states) m.showing

-- so it is where a turn isn't refused
abbrev pub LeavesFamily : Program → Outcome Bool → Type 0
LeavesFamily p (Done target m) = IsFamily p m
LeavesFamily p (Halted r m) = Unit {0}

-- ---- what follows

-- an instance stands at a place, which stands once in what its parent shows
pub record StandsIn (s : Showing) (q n : ℕ) : Type 0 where
  pub place : ℕ
  pub there : child_at s place ≡ Some n
  pub shown : count place (places_all (parts_of s q)) ≡ 1

-- where the file of a tag is a component, a child stands at the tag's place
abbrev pub HasChild : Program → Showing → Hold → Type 0
HasChild p s h = (t : Tag) (c : Component) → slice_get p.tags h.tag ≡ Some t → component_at p t.file ≡ Some c → is_some (child_at s h.place) ≡ true
