-- Views that are lent: each to a child, as its tag in what its parent shows stands on it.
use Rattle.std.proofs.Common.{◌≡◌, ◌≢◌, ◌⊎◌, ⊎_elim, inl, inr, ℕ, zero, suc, ◌<◌, ◌≤◌, true, false, List, [], ◌∷◌, length, map, drop, Option, None, Some, is_some, refl, sym, ap, subst, ◌∙◌, arith}
use Rattle.std.proofs.lemmas.Bool.{cases_eq, true≢false}
use Rattle.std.proofs.lemmas.List.{length-set, drop-map}
use Rattle.std.proofs.lemmas.Option.{none-some, same_Some}
use Rattle.sv_code.proofs.Each.{each_mono}
use Rattle.sv_code.specs.Names.{Each}
use Rattle.sv_code.specs.declared.program.Program.{Program}
use Rattle.sv_family.proofs.Held.{any_counts, held_places, child_by_place, held_alone}
use Rattle.sv_family.proofs.Holding.{any_mono, each_both, for_stays}
use Rattle.sv_family.proofs.Staying.{Stay, is_there, lending_stays, above_stay, shown_holds, shown_stays}
use Rattle.sv_family.specs.Family.{Family, AreAbove, AreParents, HaveCells, AreLent, ArePlaces, AreChildren, AreKept, ArePending, HasHold, HoldIsKept, IsKept, IsShown, markup_in, holds_in, is_parent, is_child_of, kid}
use Rattle.sv_family.specs.Kin.{Kin, Kins, tag_of, tag_at, tags_in, tags_now, insts_now, parent_of, parent_at, depth_of, depth_at, IsBelow, is_lent, with_lent}
use Rattle.sv_stands.proofs.Standing.{holds_stand}
use Rattle.sv_stands.specs.Standing.{OwnersFor, StandsOn, content_in}
use Rattle.sv_family.specs.Pending.{Pending}
use Rattle.sv_meaning.specs.Components.{component_at}
use Rattle.sv_numbered.specs.Numbered.{at, altered}
use Rattle.sv_places.specs.Keeping.{parts_of}
use Rattle.sv_places.specs.Numbers.{count}
use Rattle.sv_shapes.specs.Places.{places_all}
use Rattle.sv_shapes.specs.Showing.{Showing, shown_of, child_at}
use Rattle.sv_shapes.specs.declared.shown.Shown.{Shown}
use Rattle.sv_stands.specs.Holds.{Hold}
use Rattle.sv_places.specs.Any.{Any}
use Rattle.sv_states.proofs.Altering.{altered-some, at-altered_same, at-altered_other}
use Rattle.sv_states.specs.declared.states.TheConstants.{DEPTH_LIMIT}
use Rattle.sv_tokens.specs.Counting.{one}
use Rattle.sv_view.specs.Level.{View}
use Rattle.sv_view.specs.View.{insts, levels_of}

pub each_drop : {A : Type 0} (Q : A → Type 0) (n : ℕ) (xs : List A) → Each Q xs → Each Q (drop n xs)
each_drop Q zero xs h = h
each_drop Q (suc n) [] h = tt
each_drop Q (suc n) (x ∷ xs) h = each_drop Q n xs h.1

-- what is so of one and of each is so of one at once
pub any_each : {A : Type 0} (P Q : A → Type 0) (xs : List A) → Any P xs → Each Q xs → Any (λ x. P x × Q x) xs
any_each P Q [] h k = h
any_each P Q (x ∷ xs) (inl h) k = inl (h, k.0)
any_each P Q (x ∷ xs) (inr h) k = inr (any_each P Q xs h k.1)

-- one of them
pub the_one : {A : Type 0} (P : A → Type 0) (xs : List A) → Any P xs → (x : A) × P x
the_one P [] h = absurd h
the_one P (x ∷ xs) (inl h) = (x, h)
the_one P (x ∷ xs) (inr h) = the_one P xs h

module _ (p : Program) (pend : Pending) (new : Option ℕ) (q place n : ℕ) (kin : Kin) (view : View) (ks : Kins) (s : Showing) (next : ℕ)
    (fresh : (new ≡ None) ⊎ (new ≡ Some n)) (has : HasHold p ks s q place view) (is : child_at s place ≡ Some n) (live : at ks n ≡ Some kin) (takes : is_lent p kin ≡ true) (f : Family p pend new [] ks s next) where
  abbrev later : Kins
  later = altered (with_lent view) ks n

  -- ---- all stand where they stood

  at_lent : at later n ≡ Some (with_lent view kin)
  at_lent = at-altered_same (with_lent view) ks n kin live

  at_else : (m : ℕ) → m ≢ n → at later m ≡ at ks m
  at_else m other = at-altered_other (with_lent view) ks n m other

  pub lent_stay : Stay ks later
  lent_stay = lending_stays view ks n kin live

  -- who is there was lent the view, or is as it was
  which : (m : ℕ) (k : Kin) → at later m ≡ Some k → ((m ≡ n) × (k ≡ with_lent view kin)) ⊎ ((m ≢ n) × (at ks m ≡ Some k))
  which m k e = ⊎_elim (λ same. inl (same, same_Some k (with_lent view kin) (sym e ∙ (ap (at later) same ∙ at_lent)))) (λ other. inr (other, sym (at_else m other) ∙ e)) (cases_eq m n)

  same_parent : (m : ℕ) → parent_at later m ≡ parent_at ks m
  same_parent m = ⊎_elim (λ same. ap (parent_at later) same ∙ (ap parent_of at_lent ∙ (sym (ap parent_of live) ∙ ap (parent_at ks) (sym same)))) (λ other. ap parent_of (at_else m other)) (cases_eq m n)

  same_tag : (m : ℕ) → tag_at later m ≡ tag_at ks m
  same_tag m = ⊎_elim (λ same. ap (tag_at later) same ∙ (ap tag_of at_lent ∙ (sym (ap tag_of live) ∙ ap (tag_at ks) (sym same)))) (λ other. ap tag_of (at_else m other)) (cases_eq m n)

  same_depth : (m : ℕ) → depth_at later m ≡ depth_at ks m
  same_depth m = ⊎_elim (λ same. ap (depth_at later) same ∙ (ap depth_of at_lent ∙ (sym (ap depth_of live) ∙ ap (depth_at ks) (sym same)))) (λ other. ap depth_of (at_else m other)) (cases_eq m n)

  same_live : (m : ℕ) → is_some (at later m) ≡ is_some (at ks m)
  same_live m = ⊎_elim (λ same. ap (λ z. is_some (at later z)) same ∙ (ap is_some at_lent ∙ (sym (ap is_some live) ∙ ap (λ z. is_some (at ks z)) (sym same)))) (λ other. ap is_some (at_else m other)) (cases_eq m n)

  same_tags : (list : List ℕ) → map (tag_at later) list ≡ map (tag_at ks) list
  same_tags [] = refl
  same_tags (m ∷ list) = rw (same_tag m, same_tags list) refl

  lent_parents : AreParents later
  lent_parents = record {
    earlier = λ m r e. f.parents.earlier m r (sym (same_parent m) ∙ e);
    live = λ m r e. same_live r ∙ f.parents.live m r (sym (same_parent m) ∙ e);
    deeper = λ m r e. same_depth m ∙ (f.parents.deeper m r (sym (same_parent m) ∙ e) ∙ ap suc (sym (same_depth r)));
    shallow = λ m. subst (λ z. z ≤ DEPTH_LIMIT) (sym (same_depth m)) (f.parents.shallow m);
    tagged = λ m k e. ap is_some (same_parent m) ∙ f.parents.tagged m k (sym (same_tag m) ∙ e);
  }

  lent_cells : HaveCells p later
  lent_cells m k c e g = ⊎_elim
      (λ own. ap (λ (z : Kin). z.cells) own.1 ∙ f.cells n kin c live (sym (ap (λ (z : Kin). component_at p z.place.component) own.1) ∙ g))
      (λ other. f.cells m k c other.1 g)
      (which m k e)

  -- ---- the tag at the place

  abbrev shown : Shown
  shown = has.shown

  q_shown : IsShown p ks q shown
  q_shown = f.shown q shown has.is

  -- what is known of it
  pub record IsIt (h : Hold) : Type 0 where
    pub place_is : h.place ≡ place
    pub view_is : h.view ≡ view
    pub on : StandsOn p (markup_in p ks q) (tags_in ks shown.view) shown.view h
    pub kept : HoldIsKept ks s h

  any_is : Any IsIt (holds_in p ks q shown)
  any_is = any_mono (λ h. ((h.place ≡ place) × (h.view ≡ view)) × (StandsOn p (markup_in p ks q) (tags_in ks shown.view) shown.view h × HoldIsKept ks s h)) IsIt
      (λ h m. record { place_is = m.0.0; view_is = m.0.1; on = m.1.0; kept = m.1.1 }) (holds_in p ks q shown)
      (any_each _ _ (holds_in p ks q shown) has.hold
      (each_both (StandsOn p (markup_in p ks q) (tags_in ks shown.view) shown.view) (HoldIsKept ks s) (λ h. StandsOn p (markup_in p ks q) (tags_in ks shown.view) shown.view h × HoldIsKept ks s h) (λ h a b. (a, b)) (holds_in p ks q shown)
      (holds_stand p (tags_in ks shown.view) (markup_in p ks q) shown.view shown.parts q_shown.owners) (f.kept q shown has.is)))

  it : (h : Hold) × IsIt h
  it = the_one IsIt (holds_in p ks q shown) any_is

  -- its tags are those of its view
  its_tags : (h : Hold) → IsIt h → h.tags ≡ tags_in ks view
  its_tags h k = k.on.tags_are ∙ (drop-map (tag_at ks) k.on.depth (insts shown.view) ∙ (ap (map (tag_at ks)) (sym k.on.insts_are) ∙ ap (tags_in ks) k.view_is))

  -- so they are of each hold there
  only_tags : (r : ℕ) (y : Shown) → shown_of s r ≡ Some y → Each (λ h. h.place ≡ place → h.tags ≡ tags_in ks view) (holds_in p ks r y)
  only_tags r y there =
      held_alone pend ks s next f.places p f.shown (λ h. h.tags ≡ tags_in ks view) place q shown has.is
      (any_mono IsIt (λ h. (h.place ≡ place) × (h.tags ≡ tags_in ks view)) (λ h k. (k.place_is, its_tags h k)) (holds_in p ks q shown) any_is) r y there

  its_kept : IsKept ks it.0 kin n
  its_kept = it.1.kept n kin (ap (child_at s) it.1.place_is ∙ is) live

  -- the child is one of the instance
  parent : parent_at ks n ≡ Some q
  parent =
      let held : 1 ≤ count place (places_all (parts_of s q)) = subst (λ z. 1 ≤ count place z) (held_places p ks s q shown has.is q_shown) (any_counts place (λ h. h.view ≡ view) (holds_in p ks q shown) has.hold) in
      child_by_place pend ks s next f.places [] f.children q place n is (omega (arith, held))

  view_above : AreAbove ks n (insts view)
  view_above =
      subst (λ z. AreAbove ks n z) (sym it.1.on.insts_are ∙ ap insts it.1.view_is)
      (each_mono (λ o. (o ≡ q) ⊎ IsBelow ks o q) (λ o. IsBelow ks o n) (λ o a. ⊎_elim (λ own. IsBelow.child n (parent ∙ ap Some (sym own))) (λ below. IsBelow.further n q parent below) a) (drop it.1.on.depth (insts shown.view))
      (each_drop (λ o. (o ≡ q) ⊎ IsBelow ks o q) it.1.on.depth (insts shown.view) q_shown.around))

  view_owners : (k : ℕ) → tag_at ks n ≡ Some k → OwnersFor p (content_in p k) (tags_in ks view) view.owners
  view_owners k e =
      subst (λ z. OwnersFor p (content_in p z) (tags_in ks view) view.owners) (same_Some it.0.tag k (sym its_kept.tag ∙ e))
      (subst (λ (z : View). OwnersFor p (content_in p it.0.tag) (tags_in ks view) z.owners) it.1.view_is
      (subst (λ z. OwnersFor p (content_in p it.0.tag) z it.0.view.owners) (its_tags it.0 it.1) it.1.on.owners))

  lent_lent : AreLent p None later s
  lent_lent = record {
    above = λ m k v e l. ⊎_elim
        (λ own. above_stay ks later lent_stay m (insts v)
        (subst (λ z. AreAbove ks z (insts v)) (sym own.0) (subst (λ z. AreAbove ks n (insts z)) (same_Some view v (sym (ap (λ (z : Kin). z.lent) own.1) ∙ l)) view_above)))
        (λ other. above_stay ks later lent_stay m (insts v) (f.lent.above m k v other.1 l))
        (which m k e);
    owners = λ m t k v e l g. subst (λ z. OwnersFor p (content_in p t) z v.owners) (sym (same_tags (insts v))) (⊎_elim
        (λ own. subst (λ (z : View). OwnersFor p (content_in p t) (tags_in ks z) z.owners) (same_Some view v (sym (ap (λ (z : Kin). z.lent) own.1) ∙ l)) (view_owners t (ap (tag_at ks) (sym own.0) ∙ (sym (same_tag m) ∙ g))))
        (λ other. f.lent.owners m t k v other.1 l (sym (same_tag m) ∙ g))
        (which m k e));
    there = λ m k e a b. inr (⊎_elim
        (λ own. ap (λ (z : Kin). is_some z.lent) own.1)
        (λ other. ⊎_elim
        (λ now. absurd (⊎_elim (λ none. none-some m (sym none ∙ now)) (λ one. other.0 (same_Some m n (sym now ∙ one))) fresh))
        (λ lent. lent)
        (f.lent.there m k other.1 a b))
        (which m k e));
    unseen = λ m e. absurd (none-some m e);
  }

  -- ---- what is shown

  -- where it is shown, it was lent a view with these tags before
  tags_before : (x : Shown) → shown_of s n ≡ Some x → tags_now later n (with_lent view kin) ≡ tags_now ks n kin
  tags_before x there = ⊎_elim
      (λ now. absurd (none-some x (sym (f.lent.unseen n now) ∙ there)))
      (λ lent. let v = is_there kin.lent lent in by v.0 v.1)
      (f.lent.there n kin live (ap is_some (sym (ap parent_of live) ∙ parent)) takes)
    where
      by : (v : View) → kin.lent ≡ Some v → tags_now later n (with_lent view kin) ≡ tags_now ks n kin
      by v e =
          same_tags (n ∷ insts view)
          ∙ (ap (λ z. tag_at ks n ∷ z) (sym (its_tags it.0 it.1) ∙ sym (its_kept.tags v e))
          ∙ ap (λ o. map (tag_at ks) (n ∷ map (λ l. l.inst) (levels_of o))) (sym e))

  lent_shown : (m : ℕ) (x : Shown) → shown_of s m ≡ Some x → IsShown p later m x
  lent_shown m x there = ⊎_elim
      (λ own. subst (λ z. IsShown p later z x) (sym own)
      (let here = ap (shown_of s) (sym own) ∙ there in
      let k = f.shown n x here in
      let one : kin ≡ k.kin = same_Some kin k.kin (sym live ∙ k.live) in
      shown_stays ks later lent_stay f.parents p n x k (with_lent view kin) at_lent (tags_before x here ∙ ap (tags_now ks n) one)))
      (λ other.
      let k = f.shown m x there in
      shown_stays ks later lent_stay f.parents p m x k k.kin (at_else m other ∙ k.live) (same_tags (insts_now m k.kin)))
      (cases_eq m n)

  -- ---- places and children

  same_kid : (r a : ℕ) → kid later s r a ≡ kid ks s r a
  same_kid r a = by (child_at s a)
    where
      by : (o : Option ℕ) → one (is_child_of later r o) ≡ one (is_child_of ks r o)
      by None = refl
      by (Some m) = ap (λ o. one (is_parent r o)) (same_parent m)

  lent_places : ArePlaces pend later s next
  lent_places = record {
    once = f.places.once;
    apart = f.places.apart;
    kids = λ r a. let e = same_kid r a in let k = f.places.kids r a in omega (arith, e, k);
    due = f.places.due;
  }

  lent_children : AreChildren [] later s
  lent_children = record {
    sorted = f.children.sorted;
    parent = λ a m e. ap is_some (same_parent m) ∙ f.children.parent a m e;
    once = f.children.once;
    left = f.children.left;
    stand = λ m r e. f.children.stand m r (sym (same_parent m) ∙ e);
  }

  one_kept : (h : Hold) → HoldIsKept ks s h → (h.place ≡ place → h.tags ≡ tags_in ks view) → HoldIsKept later s h
  one_kept h kept only m k e l = ⊎_elim
      (λ own.
      let there = e ∙ ap Some own.0 in
      record {
        tag = same_tag m ∙ (ap (tag_at ks) own.0 ∙ (kept n kin there live).tag);
        tags = λ v g. same_tags (insts v) ∙ (ap (tags_in ks) (sym (same_Some view v (sym (ap (λ (z : Kin). z.lent) own.1) ∙ g))) ∙ sym (only (f.children.once h.place place n there is)));
      })
      (λ other. let a = kept m k e other.1 in record { tag = same_tag m ∙ a.tag; tags = λ v g. same_tags (insts v) ∙ a.tags v g })
      (which m k l)

  lent_kept : AreKept p later s
  lent_kept m x there =
      subst (λ z. Each (HoldIsKept later s) z) (sym (shown_holds ks later lent_stay f.parents p m x (f.shown m x there)))
      (each_both (HoldIsKept ks s) (λ h. h.place ≡ place → h.tags ≡ tags_in ks view) (HoldIsKept later s) one_kept (holds_in p ks m x) (f.kept m x there) (only_tags m x there))

  lent_pending : ArePending p pend later s
  lent_pending = record {
    ascend = f.pending.ascend;
    made = each_mono (λ e. e.0 < length ks) (λ e. e.0 < length later)
        (λ e lt. subst (λ z. e.0 < z) (sym (ap length (altered-some (with_lent view) ks n kin live) ∙ length-set ks n (Some (with_lent view kin)))) lt) pend f.pending.made;
    for = for_stays ks later lent_stay f.parents p s f.shown pend f.pending.for;
    shown = f.pending.shown;
  }

  pub lent_family : Family p pend None [] later s next
  lent_family = record {
    parents = lent_parents;
    cells = lent_cells;
    lent = lent_lent;
    sorted = f.sorted;
    shown = lent_shown;
    places = lent_places;
    children = lent_children;
    kept = lent_kept;
    pending = lent_pending;
  }

-- who has no cell for a view is lent none
pub spared : (p : Program) (pend : Pending) (n : ℕ) (kin : Kin) (ks : Kins) (s : Showing) (next : ℕ) → at ks n ≡ Some kin → is_lent p kin ≡ false → Family p pend (Some n) [] ks s next → Family p pend None [] ks s next
spared p pend n kin ks s next live takes f = record {
  parents = f.parents;
  cells = f.cells;
  lent = record {
    above = f.lent.above;
    owners = f.lent.owners;
    there = λ m k e a b. ⊎_elim
        (λ now. absurd (true≢false (sym b ∙ (ap (is_lent p) (same_Some k kin (sym e ∙ (ap (at ks) (same_Some m n (sym now)) ∙ live))) ∙ takes))))
        (λ lent. inr lent)
        (f.lent.there m k e a b);
    unseen = λ m e. absurd (none-some m e);
  };
  sorted = f.sorted;
  shown = f.shown;
  places = f.places;
  children = f.children;
  kept = f.kept;
  pending = f.pending;
}
