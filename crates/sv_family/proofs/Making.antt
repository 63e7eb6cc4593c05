-- Instances that are made: each for a tag in what its parent shows, at a place that had no child.
use Rattle.std.proofs.Common.{◌≡◌, ◌≢◌, ◌⊎◌, ⊎_elim, inl, inr, ℕ, suc, ◌+◌, ◌<◌, ◌≤◌, Bool, true, false, nat_eq, List, [], ◌∷◌, ◌++◌, length, None, Some, is_some, refl, sym, ap, subst, ◌∙◌, arith}
use Rattle.std.specs.Prelude.{if◌then◌else◌}
use Rattle.std.proofs.lemmas.Bool.{cases_eq, eqb-true, eq-eqb}
use Rattle.std.proofs.lemmas.List.{length_push}
use Rattle.std.proofs.lemmas.Option.{none-some, same_Some}
use Rattle.sv_code.proofs.Each.{each_mono}
use Rattle.sv_code.specs.Names.{Each}
use Rattle.sv_code.specs.declared.program.Component.{Component}
use Rattle.sv_code.specs.declared.program.Program.{Program}
use Rattle.sv_code.specs.declared.tags.Tag.{Tag}
use Rattle.sv_family.proofs.Born.{MayStand, at_born, at_other, live_other, born_stay, which_parent, born_parent, born_parents, born_cells, not_lent, born_lent, born_shown, born_kept, born_kid}
use Rattle.sv_family.proofs.Course.{born_kin, with_born, child_place}
use Rattle.sv_family.proofs.Held.{none_yet, held_alone}
use Rattle.sv_family.proofs.Holding.{any_mono, each_both, effects_shown, made_for, create_hold, for_stays, hold_stays}
use Rattle.sv_family.proofs.Entries.{sorted_put}
use Rattle.sv_family.proofs.Staying.{child_live, parent_stays, shown_holds}
use Rattle.sv_family.specs.Family.{Family, ArePlaces, AreChildren, AreKept, ArePending, HasHold, HoldIsKept, holds_in, is_parent, is_child_of, kid, load, due}
use Rattle.sv_family.specs.Kin.{Kin, Kins, tag_of, depth_at}
use Rattle.sv_family.specs.Pending.{Pending, pending_of}
use Rattle.sv_flush.specs.Creation.{cell_count}
use Rattle.sv_instance.specs.Standing.{Place}
use Rattle.sv_meaning.specs.Components.{component_at}
use Rattle.sv_numbered.specs.Numbered.{at}
use Rattle.sv_parts.specs.declared.state.Effect.{Effect}
use Rattle.sv_parts.specs.declared.state.Effect.TheVariants.{Create}
use Rattle.sv_parts.specs.declared.state.Given.{Given}
use Rattle.sv_places.proofs.Lookups.{found-put, found-put_other}
use Rattle.sv_places.specs.Keeping.{created_at, destroyed_at, parts_of}
use Rattle.sv_places.specs.Numbers.{count}
use Rattle.sv_shapes.specs.Places.{places_all}
use Rattle.sv_shapes.specs.Showing.{Showing, shown_of, child_at, with_child}
use Rattle.sv_shapes.specs.declared.shown.Shown.{Shown}
use Rattle.sv_stands.specs.Holds.{Hold}
use Rattle.sv_places.specs.Any.{Any}
use Rattle.sv_states.specs.declared.states.TheConstants.{DEPTH_LIMIT}
use Rattle.sv_tokens.proofs.Counting.{one-most}
use Rattle.sv_tokens.specs.Counting.{one}
use Rattle.sv_view.specs.Level.{View}

-- ---- one effect less

module _ (pend : Pending) (q place t : ℕ) (props : List Given) (view : View) (es : List Effect) where
  abbrev more : Pending
  more = (q, Create place t props view ∷ es) ∷ pend

  abbrev less : Pending
  less = (q, es) ∷ pend

  same_destroyed : (r : ℕ) → destroyed_at (pending_of more r) ≡ destroyed_at (pending_of less r)
  same_destroyed r = by (nat_eq q r)
    where
      by : (b : Bool) → destroyed_at ((if b then Create place t props view ∷ es else []) ++ pending_of pend r) ≡ destroyed_at ((if b then es else []) ++ pending_of pend r)
      by true = refl
      by false = refl

  same_load : (s : Showing) (r n : ℕ) → load more s r n ≡ load less s r n
  same_load s r n = ap (λ z. count n (places_all (parts_of s r)) + count n z) (same_destroyed r)

  less_due : (r n : ℕ) → due less r n ≤ due more r n
  less_due r n = by (nat_eq q r)
    where
      by : (b : Bool) → count n (created_at ((if b then es else []) ++ pending_of pend r)) ≤ count n (created_at ((if b then Create place t props view ∷ es else []) ++ pending_of pend r))
      by true = omega arith
      by false = omega arith

  due_here : due more q place ≡ 1 + due less q place
  due_here = by (nat_eq q q) (eq-eqb q q refl)
    where
      by : (b : Bool) → b ≡ true → count place (created_at ((if b then Create place t props view ∷ es else []) ++ pending_of pend q)) ≡ 1 + count place (created_at ((if b then es else []) ++ pending_of pend q))
      by true e = ap (λ b. one b + count place (created_at (es ++ pending_of pend q))) (eq-eqb place place refl)
      by false e = absurd (cc)

module _ (p : Program) (pend : Pending) (q place t : ℕ) (props : List Given) (view : View) (es : List Effect) (ks : Kins) (s : Showing) (next : ℕ) (tag : Tag) (c : Component)
    (is_component : component_at p tag.file ≡ Some c) (deep : depth_at ks q < DEPTH_LIMIT) (f : Family p ((q, Create place t props view ∷ es) ∷ pend) None [] ks s next) where
  abbrev stand : Place
  stand = child_place ks tag q t view

  abbrev cells : ℕ
  cells = cell_count c

  abbrev later : Kins
  later = with_born ks stand cells

  abbrev after : Showing
  after = with_child s place (length ks)

  shows : (x : Shown) × (shown_of s q ≡ Some x)
  shows = effects_shown p pend q (Create place t props view) es ks s f.pending

  q_live : is_some (at ks q) ≡ true
  q_live = ap is_some (f.shown q shows.0 shows.1).live

  may : MayStand ks stand
  may = record {
    live = λ r e. subst (λ z. is_some (at ks z) ≡ true) (same_Some q r e) q_live;
    deeper = λ r e. ap (λ z. suc (depth_at ks z)) (same_Some q r e);
    shallow = deep;
    tagged = λ k e. refl;
  }

  -- ---- places

  none_there : child_at s place ≡ None
  none_there = none_yet (more pend q place t props view es) ks s next f.places [] f.children q place (let e = due_here pend q place t props view es in omega (arith, e))

  child_here : child_at after place ≡ Some (length ks)
  child_here = found-put s.children place (length ks)

  child_other : (n : ℕ) → n ≢ place → child_at after n ≡ child_at s n
  child_other n other = found-put_other s.children place (length ks) n other

  kid_other : (r n : ℕ) → n ≢ place → kid later after r n ≡ kid ks s r n
  kid_other r n other = ap (λ o. one (is_child_of later r o)) (child_other n other) ∙ born_kid ks stand cells [] s f.children r n

  kid_new : (r : ℕ) → kid later after r place ≡ one (nat_eq r q)
  kid_new r = ap (λ o. one (is_child_of later r o)) child_here ∙ ap (λ o. one (is_parent r o)) (born_parent ks stand cells (length ks) refl)

  kids_next : (r n : ℕ) → kid later after r n + due (less pend q place t props view es) r n ≤ load (more pend q place t props view es) s r n
  kids_next r n = ⊎_elim
      (λ here. subst (λ z. kid later after r z + due (less pend q place t props view es) r z ≤ load (more pend q place t props view es) s r z) (sym here) (⊎_elim
      (λ own.
      subst (λ z. kid later after z place + due (less pend q place t props view es) z place ≤ load (more pend q place t props view es) s z place) (sym own)
      (let k = f.places.kids q place in let d = due_here pend q place t props view es in let o = one-most (is_child_of later q (child_at after place)) in omega (arith, k, d, o)))
      (λ other. let k = f.places.kids r place in let d = less_due pend q place t props view es r place in let e = kid_new r in let z = no_match r q other in omega (arith, k, d, e, z))
      (cases_eq r q)))
      (λ other. let k = f.places.kids r n in let d = less_due pend q place t props view es r n in let e = kid_other r n other in omega (arith, k, d, e))
      (cases_eq n place)
    where
      no_match : (a b : ℕ) → a ≢ b → one (nat_eq a b) ≡ 0
      no_match a b other = by (nat_eq a b) refl
        where
          by : (x : Bool) → nat_eq a b ≡ x → one x ≡ 0
          by true e = absurd (other (eqb-true a b e))
          by false e = refl

  made_places : ArePlaces (less pend q place t props view es) later after next
  made_places = record {
    once = λ r n. let e = same_load pend q place t props view es s r n in let o = f.places.once r n in omega (arith, e, o);
    apart = λ r u n other. let e = same_load pend q place t props view es s r n in let g = same_load pend q place t props view es s u n in let o = f.places.apart r u n other in omega (arith, e, g, o);
    kids = λ r n. let e = same_load pend q place t props view es s r n in let k = kids_next r n in omega (arith, e, k);
    due = λ r n. let d = less_due pend q place t props view es r n in let k = f.places.due r n in omega (arith, d, k);
  }

  -- ---- children

  -- who stood somewhere isn't the new one
  not_new : (n : ℕ) → child_at s n ≡ Some (length ks) → ⊥
  not_new n e = live_other ks stand cells (length ks) (child_live [] ks s f.children n (length ks) e) refl

  -- who stands somewhere now is the new one at its place, or stood there before
  which_child : (n m : ℕ) → child_at after n ≡ Some m → ((n ≡ place) × (m ≡ length ks)) ⊎ (child_at s n ≡ Some m)
  which_child n m e = ⊎_elim (λ is. inl (is, same_Some m (length ks) (sym e ∙ (ap (child_at after) is ∙ child_here)))) (λ other. inr (sym (child_other n other) ∙ e)) (cases_eq n place)

  made_children : AreChildren [] later after
  made_children = record {
    sorted = sorted_put s.children place (length ks) f.children.sorted;
    parent = λ n m e. ⊎_elim
        (λ new. ap is_some (born_parent ks stand cells m new.1))
        (λ old. ap is_some (parent_stays ks later (born_stay ks stand cells) m (child_live [] ks s f.children n m old)) ∙ f.children.parent n m old)
        (which_child n m e);
    once = λ a b m e g. ⊎_elim
        (λ new. ⊎_elim (λ too. new.0 ∙ sym too.0) (λ old. absurd (not_new b (old ∙ ap Some new.1))) (which_child b m g))
        (λ old. ⊎_elim (λ new. absurd (not_new a (old ∙ ap Some new.1))) (λ too. f.children.once a b m old too) (which_child b m g))
        (which_child a m e);
    left = λ n m none e. none;
    stand = λ n r e. inr (⊎_elim
        (λ old. ⊎_elim
        (λ none. absurd none)
        (λ some. (some.0, child_other some.0 (λ is. none-some n (sym none_there ∙ (ap (child_at s) (sym is) ∙ some.1))) ∙ some.1))
        (f.children.stand n r old))
        (λ new. (place, child_here ∙ ap Some (sym new.0)))
        (which_parent ks stand cells n r e));
  }

  -- ---- tags

  made_here : Any (λ (h : Hold). (h.place ≡ place) × (h.tag ≡ t)) (holds_in p ks q shows.0)
  made_here = any_mono (λ (h : Hold). (h.place ≡ place) × ((h.tag ≡ t) × (h.view ≡ view))) (λ (h : Hold). (h.place ≡ place) × (h.tag ≡ t)) (λ h m. (m.0, m.1.0)) (holds_in p ks q shows.0)
      (made_for p pend q place props es ks s t view f.pending shows.0 shows.1)

  one_kept : (h : Hold) → HoldIsKept ks s h → (h.place ≡ place → h.tag ≡ t) → HoldIsKept later after h
  one_kept h kept only n kin e live = ⊎_elim
      (λ new.
      let is = same_Some kin (born_kin stand cells) (sym live ∙ (ap (at later) new.1 ∙ at_born ks stand cells)) in
      record { tag = ap tag_of live ∙ (ap (λ (k : Kin). tag_of (Some k)) is ∙ ap Some (sym (only new.0))); tags = λ v l. absurd (not_lent ks stand cells kin v is l) })
      (λ old.
      let before = sym (at_other ks stand cells n (live_other ks stand cells n (child_live [] ks s f.children h.place n old))) ∙ live in
      born_kept ks stand cells p s f.parents f.shown f.lent h n kin before (kept n kin old before))
      (which_child h.place n e)

  made_kept : AreKept p later after
  made_kept n x is =
      subst (λ z. Each (HoldIsKept later after) z) (sym (shown_holds ks later (born_stay ks stand cells) f.parents p n x (f.shown n x is)))
      (each_both (HoldIsKept ks s) (λ h. h.place ≡ place → h.tag ≡ t) (HoldIsKept later after) one_kept (holds_in p ks n x) (f.kept n x is)
      (held_alone (more pend q place t props view es) ks s next f.places p f.shown (λ h. h.tag ≡ t) place q shows.0 shows.1 made_here n x is))

  -- ---- effects

  made_pending : ArePending p (less pend q place t props view es) later after
  made_pending = record {
    ascend = f.pending.ascend;
    made = each_mono (λ e. e.0 < length ks) (λ e. e.0 < length later) (λ e lt. let l = length_push ks (Some (born_kin stand cells)) in omega (arith, lt, l)) (less pend q place t props view es) f.pending.made;
    for = for_stays ks later (born_stay ks stand cells) f.parents p s f.shown (less pend q place t props view es) (λ x is. (f.pending.for.0 x is).1, f.pending.for.1);
    shown = (inr (ap is_some shows.1), f.pending.shown.1);
  }

  pub made_family : Family p ((q, es) ∷ pend) (Some (length ks)) [] later after next
  made_family =
      let lent = born_lent ks stand cells p s f.parents f.shown f.lent (Some (length ks)) (λ e. refl) (λ n e. same_Some (length ks) n e) in
      record {
        parents = born_parents ks stand cells f.parents may;
        cells = born_cells ks stand cells p c is_component refl f.cells;
        lent = record { above = lent.above; owners = lent.owners; there = lent.there; unseen = lent.unseen };
        sorted = f.sorted;
        shown = born_shown ks stand cells p s f.parents f.shown f.lent;
        places = made_places;
        children = made_children;
        kept = made_kept;
        pending = made_pending;
      }

  pub made_hold : HasHold p later after q place view
  made_hold = hold_stays ks later (born_stay ks stand cells) f.parents p s f.shown after refl q place view (create_hold p pend q place props es ks s t view f.pending)
