-- Instances that are made: what is true stays, and of the new one it is so.
use Rattle.std.proofs.Common.{◌≡◌, ◌≢◌, ◌⊎◌, ⊎_elim, ℕ, List, [], ◌∷◌, length, None, Some, is_some, slice_get, refl, sym, ap, subst, ◌∙◌}
use Rattle.std.proofs.lemmas.Bool.{cases_eq}
use Rattle.std.proofs.lemmas.Option.{none-some, same_Some}
use Rattle.sv_code.proofs.Each.{each_mono, each_of}
use Rattle.sv_code.specs.Content.{of_frags, SeesView, AreContentsSeen}
use Rattle.sv_code.specs.Names.{Each}
use Rattle.sv_code.specs.declared.program.Program.{Program}
use Rattle.sv_code.specs.declared.tags.Tag.{Tag}
use Rattle.sv_course.specs.Watched.{view_cells}
use Rattle.sv_family.proofs.Born.{at_born, none_before, live_other, born_stay, born_parent, not_lent, which}
use Rattle.sv_family.proofs.Course.{born_kin, with_born, child_place, root_place}
use Rattle.sv_family.proofs.Holding.{made_for, create_hold}
use Rattle.sv_family.proofs.Lending.{any_each, the_one}
use Rattle.sv_family.proofs.Staying.{child_live}
use Rattle.sv_family.specs.Family.{Family, HasHold, holds_in}
use Rattle.sv_family.specs.Kin.{Kin, Kins, IsBelow}
use Rattle.sv_family.specs.Pending.{Pending}
use Rattle.sv_instance.specs.Standing.{Place, Standing}
use Rattle.sv_numbered.specs.Numbered.{at}
use Rattle.sv_parts.specs.declared.state.Effect.{Effect}
use Rattle.sv_parts.specs.declared.state.Effect.TheVariants.{Create}
use Rattle.sv_parts.specs.declared.state.Given.{Given}
use Rattle.sv_places.proofs.Lookups.{found-put, found-put_other}
use Rattle.sv_shapes.specs.Showing.{Showing, shown_of, child_at, with_child}
use Rattle.sv_shapes.specs.declared.shown.Shown.{Shown}
use Rattle.sv_shown.proofs.Chains.{sees_at_makes}
use Rattle.sv_shown.proofs.Holding.{IsOn, its_each, all_on}
use Rattle.sv_shown.proofs.Passing.{true_done}
use Rattle.sv_shown.proofs.Staying.{AllRemain, AreNew, Remains, stay_remain, shown_remain, true_remain}
use Rattle.sv_shown.specs.Chains.{owner_of, owner_at, StandsAt}
use Rattle.sv_shown.specs.True.{Modules, IsHeld, AreTrue}
use Rattle.sv_stands.specs.Holds.{Hold}
use Rattle.sv_stands.specs.Standing.{content_in}
use Rattle.sv_view.specs.Level.{View}
use Rattle.sv_view.specs.View.{insts}

-- ---- one more instance, at some place

module _ (p : Program) (ms : Modules) (pend : Pending) (ks : Kins) (place : Place) (cells : ℕ) (s t : Showing) (next : ℕ) (f : Family p pend None [] ks s next) where
  abbrev later : Kins
  later = with_born ks place cells

  abbrev IsBorn : ℕ → Kin → Type 0
  IsBorn n kin = (n ≡ length ks) × (kin ≡ born_kin place cells)

  -- what is shown isn't shown of it
  unseen : (n : ℕ) (kin : Kin) (x : Shown) → IsBorn n kin → shown_of s n ≡ Some x → ⊥
  unseen n kin x born there = let k = f.shown n x there in none-some k.kin (sym (none_before ks place cells) ∙ (ap (at ks) (sym born.0) ∙ k.live))

  -- who stood somewhere isn't it
  not_born : (a n : ℕ) (kin : Kin) → child_at s a ≡ Some n → IsBorn n kin → ⊥
  not_born a n kin there born = live_other ks place cells n (child_live [] ks s f.children a n there) born.0

  -- what has to be so of it
  record IsBornWell : Type 0 where
    pub shown : (n : ℕ) → shown_of t n ≡ shown_of s n
    pub stood : (a n : ℕ) (kin : Kin) → child_at t a ≡ Some n → at ks n ≡ Some kin → child_at s a ≡ Some n
    pub standing : (st : Standing) → place.standing ≡ Some st → StandsAt p later (length ks) (born_kin place cells) st
    pub owner : (q : ℕ) (x : Shown) → shown_of s q ≡ Some x → Each (λ h. child_at t h.place ≡ Some (length ks) → owner_at later (length ks) ≡ Some h.view.own.inst) (holds_in p ks q x)

  are_new : IsBornWell → AreNew p ms pend ks later s t next IsBorn
  are_new well = record {
    which = λ n kin live. which ks place cells n kin live;
    stood = well.stood;
    standing = λ n kin st born is.
        subst (λ (z : Kin). StandsAt p later n z st) (sym born.1)
        (subst (λ z. StandsAt p later z (born_kin place cells) st) (sym born.0) (well.standing st (sym (ap (λ (z : Kin). z.place.standing) born.1) ∙ is)));
    behind = λ n kin x born there. absurd (unseen n kin x born (sym (well.shown n) ∙ there));
    lent = λ n kin view born is. absurd (not_lent ks place cells kin view born.1 is);
    held = λ q x there. each_mono (λ h. child_at t h.place ≡ Some (length ks) → owner_at later (length ks) ≡ Some h.view.own.inst)
        (λ h. (n : ℕ) (kin : Kin) → child_at t h.place ≡ Some n → IsBorn n kin → IsHeld p pend later q h n kin)
        (λ h owner n kin stands born. record {
          owner = ap (owner_at later) born.0 ∙ owner (stands ∙ ap Some born.0);
          followed = λ view is. absurd (not_lent ks place cells kin view born.1 is);
        })
        (holds_in p ks q x) (well.owner q x (sym (well.shown q) ∙ there));
  }

  true_born : IsBornWell → AreTrue p ms pend ks s next → AreTrue p ms pend later t next
  true_born well h =
      true_remain p ms pend ks later s t next (stay_remain p ks later s t (born_stay ks place cells) f.parents well.shown f.shown) f.shown f.lent.above IsBorn (are_new well) h

-- ---- the root

-- the root stands at no tag
pub true_root : (p : Program) (ms : Modules) (ks : Kins) (s : Showing) (next cells : ℕ) → Family p [] None [] ks s next → AreTrue p ms [] ks s next → AreTrue p ms [] (with_born ks root_place cells) s next
true_root p ms ks s next cells f h = true_born p ms [] ks root_place cells s s next f (record {
  shown = λ n. refl;
  stood = λ a n kin there was. there;
  standing = λ st is. absurd (none-some st is);
  owner = λ q x there. each_of (λ h. child_at s h.place ≡ Some (length ks) → owner_at (with_born ks root_place cells) (length ks) ≡ Some h.view.own.inst)
      (λ hold stands. absurd (not_born p ms [] ks root_place cells s s next f hold.place (length ks) (born_kin root_place cells) stands (refl, refl))) (holds_in p ks q x);
}) h

-- ---- children

module _ (p : Program) (ms : Modules) (contents : AreContentsSeen p) (pend : Pending) (q place t : ℕ) (props : List Given) (view : View) (es : List Effect) (ks : Kins) (s : Showing) (next : ℕ)
    (tag : Tag) (is_tag : slice_get p.tags t ≡ Some tag) (cells : ℕ) (f : Family p ((q, Create place t props view ∷ es) ∷ pend) None [] ks s next) (h : AreTrue p ms ((q, Create place t props view ∷ es) ∷ pend) ks s next) where
  abbrev more : Pending
  more = (q, Create place t props view ∷ es) ∷ pend

  abbrev stand : Place
  stand = child_place ks tag q t view

  abbrev now : Kins
  now = with_born ks stand cells

  abbrev after : Showing
  after = with_child s place (length ks)

  has : HasHold p ks s q place view
  has = create_hold p pend q place props es ks s t view f.pending

  remain : AllRemain p ks now s after
  remain = stay_remain p ks now s after (born_stay ks stand cells) f.parents (λ n. refl) f.shown

  levels_remain : Each (Remains p ks now) (insts view)
  levels_remain = its_each p ms more None q place view ks s next has f h (Remains p ks now) (shown_remain p ks now s after remain f.shown q has.shown has.is)

  -- ---- the tag

  -- each slot in its content looks at the owner's own cell for a view
  abbrev Sees : Hold → Type 0
  Sees hold = (depth : ℕ) → Each (SeesView p.tags (view_cells p ks hold.view.own.inst) depth) (of_frags (content_in p hold.tag) [])

  tag_sees : (depth : ℕ) → Each (SeesView p.tags (view_cells p ks view.own.inst) depth) (of_frags (content_in p t) [])
  tag_sees =
      let x = has.shown in
      let hold = the_one (λ hold. ((hold.place ≡ place) × ((hold.tag ≡ t) × (hold.view ≡ view))) × Sees hold) (holds_in p ks q x)
      (any_each (λ hold. (hold.place ≡ place) × ((hold.tag ≡ t) × (hold.view ≡ view))) Sees (holds_in p ks q x) (made_for p pend q place props es ks s t view f.pending x has.is)
      (sees_at_makes p contents ks h.standing q x (f.shown q x has.is) (h.right q x has.is).inst (h.right q x has.is).chain)) in
      λ depth. subst (λ k. Each (SeesView p.tags (view_cells p ks view.own.inst) depth) (of_frags (content_in p k) [])) hold.1.0.1.0
      (subst (λ (v : View). Each (SeesView p.tags (view_cells p ks v.own.inst) depth) (of_frags (content_in p hold.0.tag) [])) hold.1.0.1.1 (hold.1.1 depth))

  -- ---- where the child stands

  below : IsBelow now view.own.inst (length ks)
  below =
      let parent = born_parent ks stand cells (length ks) refl in
      let parent_live = remain.live q has.shown has.is in
      ⊎_elim
      (λ own. IsBelow.child (length ks) (parent ∙ ap Some (sym own)))
      (λ over. IsBelow.further (length ks) q parent (remain.above view.own.inst q parent_live.0 parent_live.1 over).0)
      (its_each p ms more None q place view ks s next has f h (λ o. (o ≡ q) ⊎ IsBelow ks o q) (f.shown q has.shown has.is).around).0

  child_stands : StandsAt p now (length ks) (born_kin stand cells) (record { tag = t; owner = view.own.inst })
  child_stands = record {
    above = below;
    file = λ u is. ap (λ (z : Tag). z.file) (same_Some tag u (sym is_tag ∙ is));
    sees = λ depth. subst (λ c. Each (SeesView p.tags c depth) (of_frags (content_in p t) [])) (sym levels_remain.0.cell) (tag_sees depth);
  }

  -- who stands at the place is the child
  child_here : (a n : ℕ) → child_at after a ≡ Some n → a ≡ place → n ≡ length ks
  child_here a n there same = same_Some n (length ks) (sym there ∙ (ap (child_at after) same ∙ found-put s.children place (length ks)))

  child_other : (a n : ℕ) → child_at after a ≡ Some n → a ≢ place → child_at s a ≡ Some n
  child_other a n there other = sym (found-put_other s.children place (length ks) a other) ∙ there

  -- and stands nowhere else
  its_place : (a : ℕ) → child_at after a ≡ Some (length ks) → a ≡ place
  its_place a there = ⊎_elim (λ same. same) (λ other. absurd (live_other ks stand cells (length ks) (child_live [] ks s f.children a (length ks) (child_other a (length ks) there other)) refl)) (cases_eq a place)

  born_well : IsBornWell p ms more ks stand cells s after next f
  born_well = record {
    shown = λ n. refl;
    stood = λ a n kin there was. ⊎_elim (λ same. absurd (live_other ks stand cells n (ap is_some was) (child_here a n there same))) (λ other. child_other a n there other) (cases_eq a place);
    standing = λ st is. subst (λ (z : Standing). StandsAt p now (length ks) (born_kin stand cells) z) (same_Some (record { tag = t; owner = view.own.inst }) st is) child_stands;
    owner = λ r y there. each_mono (λ hold. hold.place ≡ place → IsOn p ks view hold) (λ hold. child_at after hold.place ≡ Some (length ks) → owner_at now (length ks) ≡ Some hold.view.own.inst)
        (λ hold on stands. ap owner_of (at_born ks stand cells) ∙ ap (λ (v : View). Some v.own.inst) (sym (on (its_place hold.place stands)).view_is))
        (holds_in p ks r y) (all_on p ms more None q place view ks s next has f h r y there);
  }

  pub true_makes : AreTrue p ms ((q, es) ∷ pend) now after next
  true_makes = true_done p now after ms next pend q (Create place t props view) es (λ hold lends. absurd lends) (true_born p ms more ks stand cells s after next f born_well h)
