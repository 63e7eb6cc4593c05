-- On the first page each instance is shown on a view that agrees with the one before the view on which its tag stands.
use Rattle.std.proofs.Common.{◌≡◌, ⊎_elim, ℕ, zero, suc, true, List, [], ◌∷◌, map, Option, Some, None, option_map, is_some, refl, sym, ap, subst, ◌∙◌, arith}
use Rattle.std.proofs.lemmas.Bool.{true≢false}
use Rattle.std.proofs.lemmas.Option.{none-some, same_Some}
use Rattle.sv_agree.specs.Agreeing.{AgreesFor, AgreesAbove, slot_within}
use Rattle.sv_agree.specs.Scopes.{everything}
use Rattle.sv_alike.proofs.Throughout.{throughout}
use Rattle.sv_alike.specs.Alike.{HasViews, IsChildAlike, AreEachAlike, markup_in as markup_at}
use Rattle.sv_alike.specs.Views.{Views, evaluated, evaluated_page, page_in}
use Rattle.sv_code.specs.Content.{AreContentsSeen}
use Rattle.sv_code.specs.Names.{Each}
use Rattle.sv_code.specs.Parts.{of_frags}
use Rattle.sv_code.specs.Within.{IsWithin, ArePartsWithin}
use Rattle.sv_code.specs.declared.program.Component.{Component}
use Rattle.sv_code.specs.declared.program.Program.{Program}
use Rattle.sv_family.proofs.Blank.{family_blank, filled_blank}
use Rattle.sv_family.proofs.Holding.{each_both}
use Rattle.sv_family.proofs.Numbering.{numbers_blank}
use Rattle.sv_family.proofs.Owning.{slots_are_owned}
use Rattle.sv_family.proofs.Pictures.{Pictured, pictured, tags-same, markup-same}
use Rattle.sv_family.proofs.Staying.{is_there, child_live}
use Rattle.sv_family.specs.Family.{AreParents, Family, HaveCells, HoldIsKept, IsShown, component_for, markup_in, holds_in}
use Rattle.sv_family.specs.Kin.{Kin, Kins, kins, tag_at, tags_in, tags_now, parent_of, parent_at, is_lent, takes_view}
use Rattle.sv_family.specs.Owners.{SlotsAreOwned}
use Rattle.sv_first.proofs.Creating.{first_mounts}
use Rattle.sv_first.proofs.Facts.{IsOn, HoldIsLent, AreOn, First}
use Rattle.sv_first.proofs.Slots.{found, itself, same_at}
use Rattle.sv_first.specs.First.{seen_before, seen_views, FirstPageIsSeen}
use Rattle.sv_flush.proofs.Blank.{blank_tracked}
use Rattle.sv_flush.proofs.Bringing.{Afterwards}
use Rattle.sv_flush.proofs.Presenting.{mounted-tracked}
use Rattle.sv_flush.proofs.Tracking.{picture_at}
use Rattle.sv_flush.specs.Page.{begun, blank}
use Rattle.sv_flush.specs.Records.{RecordsSeen}
use Rattle.sv_flush.specs.Showing.{tags_of}
use Rattle.sv_flush.specs.declared.page.Page.{Page}
use Rattle.sv_frame.specs.Snapshots.{snapshot_of}
use Rattle.sv_fresh.specs.Fresh.{drawn, instance_nodes, page_nodes, slotted, viewed, walker}
use Rattle.sv_fresh.specs.Scene.{parts_at, markup_at as scene_markup}
use Rattle.sv_meaning.specs.Components.{component_at, markup_of}
use Rattle.sv_numbered.specs.Numbered.{at}
use Rattle.sv_fresh.specs.declared.source.Source.TheVariants.{Recorded, Evaluated}
use Rattle.sv_places.specs.Fits.{Fits}
use Rattle.sv_seen.proofs.Markup.{markup_fits}
use Rattle.sv_seen.proofs.Mounting.{first_page}
use Rattle.sv_seen.proofs.Spots.{spots, component-is}
use Rattle.sv_seen.specs.Seen.{AreShownRight}
use Rattle.sv_shapes.specs.Showing.{Showing, shown_of, child_at}
use Rattle.sv_shapes.specs.declared.shown.Shown.{Shown}
use Rattle.sv_stands.specs.Holds.{Hold, holds}
use Rattle.sv_states.specs.declared.states.TheConstants.{DEPTH_LIMIT}
use Rattle.sv_view.specs.Level.{View}
use Rattle.sv_view.specs.View.{levels, levels_of, owner_of, started}
use Rattle.sv_within.specs.Keys.{AreAllKeysSeen}
use Rattle.sv_world.specs.declared.world.World.{World}

-- ---- a page without a root

-- nothing is drawn of an instance that isn't shown
unshown_nodes : (p : Program) (w : World) (s : Showing) (room : ℕ) → shown_of s 1 ≡ None → instance_nodes (page_in Recorded p w s 1) room (None ∷ []) None 1 ≡ []
unfolding instance_nodes
unshown_nodes p w s zero e = refl
unshown_nodes p w s (suc room) e =
    ap (λ o. viewed (option_map (λ (x : Shown). started 1 [] None) o) (λ v. walker (page_in Recorded p w s 1) (instance_nodes (page_in Recorded p w s 1) room) (None ∷ []) (slotted (page_in Recorded p w s 1) (instance_nodes (page_in Recorded p w s 1) room) (None ∷ []))
    (scene_markup (page_in Recorded p w s 1) 1) v (parts_at (page_in Recorded p w s 1) 1))) e

-- nor is anything evaluated of one that has no view
unviewed_nodes : (p : Program) (w : World) (s : Showing) (views : Views) (room : ℕ) → views None 1 ≡ None → evaluated (page_in Evaluated p w s 1) views room (None ∷ []) None 1 ≡ []
unfolding evaluated
unviewed_nodes p w s views zero e = refl
unviewed_nodes p w s views (suc room) e =
    ap (λ o. viewed o (λ v. walker (page_in Evaluated p w s 1) (evaluated (page_in Evaluated p w s 1) views room) (None ∷ []) (slotted (page_in Evaluated p w s 1) (evaluated (page_in Evaluated p w s 1) views room) (None ∷ []))
    (scene_markup (page_in Evaluated p w s 1) 1) v (parts_at (page_in Evaluated p w s 1) 1))) e

pub empty_drawn : (p : Program) (w : World) (s : Showing) → shown_of s 1 ≡ None → drawn p w s ≡ []
unfolding drawn page_nodes
empty_drawn p w s e = unshown_nodes p w s DEPTH_LIMIT e

pub empty_evaluated : (p : Program) (w : World) (s : Showing) (views : Views) → views None 1 ≡ None → evaluated_page p w s views ≡ []
unfolding evaluated_page
empty_evaluated p w s views e = unviewed_nodes p w s views DEPTH_LIMIT e

-- ---- who is lent a view

-- where a slot stands in the markup of an instance, it has a cell for its owner's view
pub slot_lends : (p : Program) → SlotsAreOwned p → (ks : Kins) → HaveCells p ks → (n : ℕ) (kin : Kin) (depth : ℕ) → at ks n ≡ Some kin → slot_within p depth (markup_in p ks n) ≡ true → is_lent p kin ≡ true
slot_lends p owned ks cells n kin depth live e = by (component_at p kin.place.component) refl (subst (λ o. slot_within p depth (markup_of (component_for p o)) ≡ true) live e) where
  by : (c : Option Component) → component_at p kin.place.component ≡ c → slot_within p depth (markup_of c) ≡ true → takes_view c kin.cells ≡ true
  by None is q = absurd (true≢false (sym q))
  by (Some c) is q = subst (λ k. takes_view (Some c) k ≡ true) (sym (cells n kin c live is)) (owned kin.place.component c is (found p depth c.markup q))

-- ---- who has no tag

-- the root, for it has no parent: nobody has a lower number
pub root_tag : (ks : Kins) → AreParents ks → at ks 0 ≡ None → tag_at ks 1 ≡ None
root_tag ks parents nobody = by (tag_at ks 1) refl where
  first : (q : ℕ) → parent_at ks 1 ≡ Some q → q ≡ 0
  first q e = let k = parents.earlier 1 q e in omega (arith, k)

  by : (o : Option ℕ) → tag_at ks 1 ≡ o → o ≡ None
  by None e = refl
  by (Some k) e =
      let q = is_there (parent_at ks 1) (parents.tagged 1 k e) in
      absurd (true≢false (sym (sym (ap is_some nobody) ∙ (ap (λ z. is_some (at ks z)) (sym (first q.0 q.1)) ∙ parents.live 1 q.0 q.1))))

module _ (p : Program) (owned : SlotsAreOwned p) (m : Page) (within : ArePartsWithin p) (keys : AreAllKeysSeen p) (right : AreShownRight p m) (records : RecordsSeen m)
    (f : Family p [] None [] (kins m.world.states) m.showing m.counters.next) (on : AreOn p (kins m.world.states) m.showing) where
  abbrev ks : Kins
  ks = kins m.world.states

  -- a live instance is shown
  recorded : (n : ℕ) (kin : Kin) → at ks n ≡ Some kin → is_some (shown_of m.showing n) ≡ true
  recorded n kin live = by (pictured m.world.states n kin live) where
    by : Pictured m.world.states n kin → is_some (shown_of m.showing n) ≡ true
    by i = records.whole n (snapshot_of i.instance) (λ b. b) (picture_at snapshot_of m.world.states n (Some i.instance) i.live_is)

  same_tags : (v : View) → tags_of m.world v ≡ tags_in ks v
  same_tags v = tags-same m.world v

  same_markup : (n : ℕ) → markup_at p m.world n ≡ markup_in p ks n
  same_markup n = markup-same p m.world n

  -- ---- a child

  module _ (h : Hold) (kept : HoldIsKept ks m.showing h) (lent : HoldIsLent ks m.showing h) (n : ℕ) (there : child_at m.showing h.place ≡ Some n) (kin : Kin) (live : at ks n ≡ Some kin)
      (y : Shown) (is : shown_of m.showing n ≡ Some y) where
    shown : IsShown p ks n y
    shown = f.shown n y is

    its : IsOn ks n y
    its = on.on n y is

    -- it was lent the view of the hold
    module _ (v : View) (was : kin.lent ≡ Some v) where
      is_view : kin.lent ≡ Some h.view
      is_view = was ∙ ap Some (lent n kin v there live was)

      owners_are : y.view.owners ≡ levels h.view
      owners_are = its.owners ∙ (ap (λ (k : Kin). levels_of k.lent) (same_Some its.kin kin (sym its.live ∙ live)) ∙ ap levels_of is_view)

      tags_are : tags_in ks y.view ≡ Some h.tag ∷ h.tags
      tags_are =
          shown.tags
          ∙ (ap (tags_now ks n) (same_Some shown.kin kin (sym shown.live ∙ live))
          ∙ (ap (λ o. map (tag_at ks) (n ∷ map (λ l. l.inst) (levels_of o))) is_view
          ∙ (ap (λ t. t ∷ tags_in ks h.view) (kept n kin there live).tag ∙ ap (λ ts. Some h.tag ∷ ts) ((kept n kin there live).tags h.view is_view))))

      above : (depth : ℕ) → slot_within p depth (markup_in p ks n) ≡ true → AgreesAbove p depth (tags_in ks y.view) (Some h.tag ∷ h.tags) (owner_of y.view) (owner_of (seen_before (Some h.view) y))
      above depth slot =
          subst (λ os. AgreesAbove p depth (tags_in ks y.view) (Some h.tag ∷ h.tags) (owner_of y.view) (owner_of (record y.view { owners = os }))) owners_are
          (subst (λ ts. AgreesAbove p depth (tags_in ks y.view) ts (owner_of y.view) (owner_of y.view)) tags_are
          (itself p depth y.view.modules (tags_in ks y.view) y.view.owners (markup_in p ks n) (found p depth (markup_in p ks n) slot) shown.owners))

    -- it is lent one where a slot stands
    lent_one : (depth : ℕ) → parent_at ks n ≡ kin.place.parent → is_some (parent_at ks n) ≡ true → slot_within p depth (markup_in p ks n) ≡ true → is_some kin.lent ≡ true
    lent_one depth same some slot = ⊎_elim (λ none. absurd (none-some n none)) (λ one. one) (f.lent.there n kin live (ap is_some (sym same) ∙ some) (slot_lends p owned ks f.cells n kin depth live slot))

    owners_agree : (depth : ℕ) → slot_within p depth (markup_in p ks n) ≡ true → AgreesAbove p depth (tags_in ks y.view) (Some h.tag ∷ h.tags) (owner_of y.view) (owner_of (seen_before (Some h.view) y))
    owners_agree depth slot =
        let v = is_there kin.lent (lent_one depth (ap parent_of live) (f.children.parent h.place n there) slot) in
        above v.0 v.1 depth slot

    agrees_in : (depth : ℕ) → AgreesFor p depth everything (tags_in ks y.view) (Some h.tag ∷ h.tags) (markup_in p ks n) y.view (seen_before (Some h.view) y)
    agrees_in depth = (same_at p everything y.view.own y.view.owners (levels h.view) y.view.modules, owners_agree depth)

    agrees : (v : View) → seen_views m.showing (Some h.view) n ≡ Some v → (depth : ℕ) → AgreesFor p depth everything (tags_of m.world y.view) (Some h.tag ∷ h.tags) (markup_at p m.world n) y.view v
    agrees v e depth =
        subst (λ ts. AgreesFor p depth everything ts (Some h.tag ∷ h.tags) (markup_at p m.world n) y.view v) (sym (same_tags y.view))
        (subst (λ fs. AgreesFor p depth everything (tags_in ks y.view) (Some h.tag ∷ h.tags) fs y.view v) (sym (same_markup n))
        (subst (λ u. AgreesFor p depth everything (tags_in ks y.view) (Some h.tag ∷ h.tags) (markup_in p ks n) y.view u)
        (same_Some (seen_before (Some h.view) y) v (sym (ap (option_map (seen_before (Some h.view))) is) ∙ e)) (agrees_in depth)))

  child_alike : (h : Hold) → HoldIsKept ks m.showing h → HoldIsLent ks m.showing h → IsChildAlike p m.world (tags_of m.world) m.showing (seen_views m.showing) h
  child_alike h kept lent n there =
      let kin = is_there (at ks n) (child_live [] ks m.showing f.children h.place n there) in
      let y = is_there (shown_of m.showing n) (recorded n kin.0 kin.1) in
      record { shown = y.0; is = y.1; agrees = agrees h kept lent n there kin.0 kin.1 y.0 y.1 }

  -- ---- all that are shown

  views : (n : ℕ) (x : Shown) → shown_of m.showing n ≡ Some x → HasViews (seen_views m.showing) n
  views n x is = let k = on.on n x is in record {
    there = λ owner. record { view = seen_before owner x; is = ap (option_map (seen_before owner)) is; inst = k.inst; locals = k.locals; owners = refl };
    own = λ owner owner'. refl;
    modules = λ owner owner'. refl;
  }

  same_holds : (n : ℕ) (x : Shown) → holds p (tags_of m.world x.view) (markup_at p m.world n) x.view x.parts ≡ holds_in p ks n x
  same_holds n x = ap (λ ts. holds p ts (markup_at p m.world n) x.view x.parts) (same_tags x.view) ∙ ap (λ fs. holds p (tags_in ks x.view) fs x.view x.parts) (same_markup n)

  each_alike : AreEachAlike p m.world (tags_of m.world) m.showing (seen_views m.showing)
  each_alike n x is = record {
    within = subst (λ c. Each (IsWithin p) (of_frags (markup_of c))) (component-is p m.world n) (markup_fits p within keys (at (spots m.world.states) n)).within;
    fits = subst (λ ts. Fits p ts (markup_at p m.world n) x.parts) (sym (same_tags x.view))
        (subst (λ fs. Fits p (tags_in ks x.view) fs x.parts) (sym (same_markup n)) (f.shown n x is).fits);
    right = right n x is;
    before = views n x is;
    children = subst (λ hs. Each (IsChildAlike p m.world (tags_of m.world) m.showing (seen_views m.showing)) hs) (sym (same_holds n x))
        (each_both (HoldIsKept ks m.showing) (HoldIsLent ks m.showing) (IsChildAlike p m.world (tags_of m.world) m.showing (seen_views m.showing)) child_alike (holds_in p ks n x) (f.kept n x is) (on.lent n x is));
  }

  -- ---- the root

  root_tags : (x : Shown) → shown_of m.showing 1 ≡ Some x → (rest : List (Option ℕ)) × (tags_of m.world x.view ≡ None ∷ rest)
  root_tags x is =
      let k = f.shown 1 x is in
      (map (tag_at ks) (map (λ l. l.inst) (levels_of k.kin.lent)), same_tags x.view ∙ (k.tags ∙ ap (λ t. t ∷ map (tag_at ks) (map (λ l. l.inst) (levels_of k.kin.lent))) (root_tag ks f.parents on.nobody)))

  root_agrees : (x : Shown) → shown_of m.showing 1 ≡ Some x → (v : View) → seen_views m.showing None 1 ≡ Some v → (depth : ℕ) →
      AgreesFor p depth everything (tags_of m.world x.view) (None ∷ []) (markup_at p m.world 1) x.view v
  root_agrees x is v e depth =
      let t = root_tags x is in
      subst (λ u. AgreesFor p depth everything (tags_of m.world x.view) (None ∷ []) (markup_at p m.world 1) x.view u) (same_Some (seen_before None x) v (sym (ap (option_map (seen_before None)) is) ∙ e))
      (subst (λ ts. AgreesFor p depth everything ts (None ∷ []) (markup_at p m.world 1) x.view (seen_before None x)) (sym t.1) (same_at p everything x.view.own x.view.owners [] x.view.modules, λ slot. refl))

  seen_page : AreContentsSeen p → (o : Option Shown) → shown_of m.showing 1 ≡ o → drawn p m.world m.showing ≡ evaluated_page p m.world m.showing (seen_views m.showing)
  seen_page seen None e = empty_drawn p m.world m.showing e ∙ sym (empty_evaluated p m.world m.showing (seen_views m.showing) (ap (option_map (seen_before None)) e))
  seen_page seen (Some x) e =
      throughout p m.world (tags_of m.world) m.showing (seen_views m.showing) within seen (record { each = each_alike; root = record { shown = x; is = e; agrees = root_agrees x e } })

-- ---- the first page

blank_on : (p : Program) → First p [] None [] (kins (begun blank).world.states) blank.showing blank.counters.next
blank_on p = ((family_blank p blank.counters.next, numbers_blank blank.counters.next, filled_blank p), record { some = omega arith; nobody = refl; on = λ n x e. absurd (none-some x e); lent = λ n x e. absurd (none-some x e) })

pub first_seen : FirstPageIsSeen
first_seen p m compiled within seen keys e =
    let owned = slots_are_owned p seen compiled in
    let h : First p [] None [] (kins m.world.states) m.showing m.counters.next =
    subst (Afterwards (λ u. First p [] None [] (kins u.world.states) u.showing u.counters.next)) e ((first_mounts p owned).held (begun blank) (blank_on p)) in
    seen_page p owned m within keys (first_page p m within keys e) (mounted-tracked p (begun blank) m blank_tracked e).records h.0.0 h.1 seen (shown_of m.showing 1) refl
