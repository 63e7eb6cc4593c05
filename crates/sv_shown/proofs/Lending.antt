-- A child is lent the view on which its tag stands: what is true stays.
use Rattle.std.proofs.Common.{◌≡◌, ◌⊎◌, ⊎_elim, inl, inr, ℕ, true, List, [], ◌∷◌, Option, Some, is_some, refl, sym, ap, subst, ◌∙◌}
use Rattle.std.proofs.lemmas.Bool.{cases_eq}
use Rattle.std.proofs.lemmas.Option.{none-some, same_Some}
use Rattle.sv_code.proofs.Each.{each_mono}
use Rattle.sv_code.specs.Names.{Each}
use Rattle.sv_code.specs.declared.program.Program.{Program}
use Rattle.sv_course.specs.Watched.{view_cells}
use Rattle.sv_family.proofs.Staying.{Stay, is_there, lending_stays, shown_holds}
use Rattle.sv_family.specs.Family.{Family, HasHold, holds_in}
use Rattle.sv_family.specs.Kin.{Kin, Kins, parent_of, is_lent, with_lent}
use Rattle.sv_family.specs.Pending.{Pending}
use Rattle.sv_numbered.specs.Numbered.{at, altered}
use Rattle.sv_parts.specs.declared.state.Effect.TheVariants.{Set}
use Rattle.sv_parts.specs.declared.state.Given.{Given}
use Rattle.sv_right.specs.Later.{AreOwnersLater, AreAllLater}
use Rattle.sv_shapes.specs.Showing.{Showing, shown_of, child_at}
use Rattle.sv_shapes.specs.declared.shown.Shown.{Shown}
use Rattle.sv_shown.proofs.Holding.{IsOn, IsThere, on_agrees, it, its_each, its_modules, its_chain, all_on}
use Rattle.sv_shown.proofs.Later.{all_same, owners_on}
use Rattle.sv_shown.proofs.Passing.{MayPass}
use Rattle.sv_shown.proofs.Staying.{AllRemain, AreNew, Remains, agrees_remains, behind_remains, chain_remains, standing_remains, stay_remain, shown_remain, true_remain}
use Rattle.sv_shown.specs.Chains.{owner_at, StandsAt}
use Rattle.sv_shown.specs.True.{Modules, IsBehind, IsLentWell, IsFollowed, IsHeld, Agrees, AreTrue}
use Rattle.sv_stands.specs.Holds.{Hold}
use Rattle.sv_states.proofs.Altering.{at-altered_same, at-altered_other}
use Rattle.sv_view.specs.Level.{View}
use Rattle.sv_view.specs.View.{insts, levels, levels_of}

module _ (p : Program) (ms : Modules) (pend : Pending) (new : Option ℕ) (q place n : ℕ) (kin : Kin) (view : View) (ks : Kins) (s : Showing) (next : ℕ)
    (has : HasHold p ks s q place view) (is : child_at s place ≡ Some n) (live : at ks n ≡ Some kin) (takes : is_lent p kin ≡ true)
    (f : Family p pend new [] ks s next) (h : AreTrue p ms pend ks s next) where
  abbrev later : Kins
  later = altered (with_lent view) ks n

  stay : Stay ks later
  stay = lending_stays view ks n kin live

  all_remain : AllRemain p ks later s s
  all_remain = stay_remain p ks later s s stay f.parents (λ m. refl) f.shown

  -- who was lent the view
  abbrev IsLentNow : ℕ → Kin → Type 0
  IsLentNow m k = (m ≡ n) × (k ≡ with_lent view kin)

  lent_now : at later n ≡ Some (with_lent view kin)
  lent_now = at-altered_same (with_lent view) ks n kin live

  which : (m : ℕ) (k : Kin) → at later m ≡ Some k → (at ks m ≡ Some k) ⊎ IsLentNow m k
  which m k e = ⊎_elim
      (λ own. inr (own, same_Some k (with_lent view kin) (sym e ∙ (ap (at later) own ∙ lent_now))))
      (λ other. inl (sym (at-altered_other (with_lent view) ks n m other) ∙ e))
      (cases_eq m n)

  lent_is : (m : ℕ) (k : Kin) (v : View) → IsLentNow m k → k.lent ≡ Some v → view ≡ v
  lent_is m k v now e = same_Some view v (sym (ap (λ (z : Kin). z.lent) now.1) ∙ e)

  -- ---- the tag at the place

  tag : (hold : Hold) × IsThere p pend ks s q place view has.shown hold
  tag = it p ms pend new q place view ks s next has f h

  child_held : IsHeld p pend ks q tag.0 n kin
  child_held = tag.1.held n kin (ap (child_at s) tag.1.place_is ∙ is) live

  owner_is : owner_at ks n ≡ Some view.own.inst
  owner_is = child_held.owner ∙ ap (λ (v : View). Some v.own.inst) tag.1.view_is

  -- it stands on a later view than the one that the child was lent before
  later_view : (v : View) → kin.lent ≡ Some v → AreOwnersLater (view_cells p ks) ms ms (levels v) (levels view)
  later_view v e =
      let a : AreAllLater (view_cells p ks) v view = subst (AreAllLater (view_cells p ks) v) tag.1.view_is (child_held.followed v e).later in
      subst (λ m. AreOwnersLater (view_cells p ks) m ms (levels v) (levels view)) (h.lent n kin v live e).modules
      (subst (λ m. AreOwnersLater (view_cells p ks) v.modules m (levels v) (levels view)) (its_modules p ms pend new q place view ks s next has f h) (a.own, a.owners))

  -- ---- the child

  -- where it is shown it was lent one
  was_lent : (x : Shown) → shown_of s n ≡ Some x → (v : View) × (kin.lent ≡ Some v)
  was_lent x there = is_there kin.lent (⊎_elim
      (λ now. absurd (none-some x (sym (f.lent.unseen n now) ∙ there)))
      (λ lent. lent)
      (f.lent.there n kin live (sym (ap (λ o. is_some (parent_of o)) live) ∙ f.children.parent place n is) takes))

  now_behind : (x : Shown) → shown_of s n ≡ Some x → IsBehind p later ms (with_lent view kin) x
  now_behind x there =
      let v = was_lent x there in
      let before : AreOwnersLater (view_cells p ks) ms ms x.view.owners (levels v.0) = subst (λ o. AreOwnersLater (view_cells p ks) ms ms x.view.owners (levels_of o)) v.1 (h.behind n kin x live there) in
      behind_remains p ks later ms (with_lent view kin) x (shown_remain p ks later s s all_remain f.shown n x there)
      (owners_on (view_cells p ks) ms ms ms x.view.owners (levels v.0) (levels view) before (later_view v.0 v.1))

  -- the instances of the view remain
  view_remains : Each (Remains p ks later) (insts view)
  view_remains = its_each p ms pend new q place view ks s next has f h (Remains p ks later) (shown_remain p ks later s s all_remain f.shown q has.shown has.is)

  now_lent : IsLentWell p ms later n (with_lent view kin) view
  now_lent = record {
    takes = takes;
    modules = its_modules p ms pend new q place view ks s next has f h;
    chain = chain_remains p ks later (n ∷ insts view) (all_remain.here n (with_lent view kin) lent_now (ap is_some live), view_remains) (owner_is, its_chain p ms pend new q place view ks s next has f h);
  }

  now_agrees : (hold : Hold) → IsOn p ks view hold → Agrees p later hold view
  now_agrees hold on = agrees_remains p ks later hold view view_remains (on_agrees p ks view hold on)

  now_held : (r : ℕ) (hold : Hold) → IsOn p ks view hold → IsHeld p pend later r hold n (with_lent view kin)
  now_held r hold on = record {
    owner = (all_remain.here n (with_lent view kin) lent_now (ap is_some live)).owner ∙ (owner_is ∙ ap (λ (v : View). Some v.own.inst) (sym on.view_is));
    followed = λ v e. subst (IsFollowed p pend later r hold) (same_Some view v e)
        (record { later = subst (AreAllLater (view_cells p later) view) (sym on.view_is) (all_same (view_cells p later) view); agrees = inr (now_agrees hold on) });
  }

  are_new : AreNew p ms pend ks later s s next IsLentNow
  are_new = record {
    which = which;
    stood = λ a m k there was. there;
    standing = λ m k st now e.
        let place_is = ap (λ (z : Kin). z.place) now.1 in
        let was : StandsAt p ks n kin st = h.standing n kin st live (sym (ap (λ z. z.standing) place_is) ∙ e) in
        let a = all_remain.above st.owner n (with_lent view kin) lent_now was.above in
        let now_stands : StandsAt p later n kin st = standing_remains p ks later n kin st a.1 a.0 was in
        subst (λ (z : Kin). StandsAt p later m z st) (sym now.1) (subst (λ z. StandsAt p later z (with_lent view kin) st) (sym now.0)
        (record { above = now_stands.above; file = now_stands.file; sees = now_stands.sees }));
    behind = λ m k x now there. subst (λ (z : Kin). IsBehind p later ms z x) (sym now.1) (now_behind x (ap (shown_of s) (sym now.0) ∙ there));
    lent = λ m k v now e.
        subst (λ (z : Kin). IsLentWell p ms later m z v) (sym now.1)
        (subst (λ z. IsLentWell p ms later z (with_lent view kin) v) (sym now.0) (subst (IsLentWell p ms later n (with_lent view kin)) (lent_is m k v now e) now_lent));
    held = λ r y there. each_mono (λ hold. hold.place ≡ place → IsOn p ks view hold)
        (λ hold. (m : ℕ) (k : Kin) → child_at s hold.place ≡ Some m → IsLentNow m k → IsHeld p pend later r hold m k)
        (λ hold on m k stands now.
        subst (λ (z : Kin). IsHeld p pend later r hold m z) (sym now.1)
        (subst (λ z. IsHeld p pend later r hold z (with_lent view kin)) (sym now.0) (now_held r hold (on (f.children.once hold.place place n (stands ∙ ap Some now.0) is)))))
        (holds_in p ks r y) (all_on p ms pend new q place view ks s next has f h r y there);
  }

  pub true_lends : AreTrue p ms pend later s next
  true_lends = true_remain p ms pend ks later s s next all_remain f.shown f.lent.above IsLentNow are_new h

  -- so the effect that lends the view may be done
  pub lends_pass : (props : List Given) (r : ℕ) (y : Shown) → shown_of s r ≡ Some y → Each (MayPass p later s (Set place props (Some view))) (holds_in p later r y)
  lends_pass props r y there =
      subst (Each (MayPass p later s (Set place props (Some view)))) (sym (shown_holds ks later stay f.parents p r y (f.shown r y there)))
      (each_mono (λ hold. hold.place ≡ place → IsOn p ks view hold) (MayPass p later s (Set place props (Some view)))
      (λ hold on lends m k v stands now e.
      let here : hold.place ≡ place = sym lends.0 in
      let own : n ≡ m = same_Some n m (sym is ∙ (ap (child_at s) lends.0 ∙ stands)) in
      let k_is : with_lent view kin ≡ k = same_Some (with_lent view kin) k (sym lent_now ∙ (ap (at later) own ∙ now)) in
      subst (Agrees p later hold) (same_Some view v (ap (λ (z : Kin). z.lent) k_is ∙ e)) (now_agrees hold (on here)))
      (holds_in p ks r y) (all_on p ms pend new q place view ks s next has f h r y there))
