-- One more instance: all others stay, and where it stands is right.
use Rattle.std.proofs.Common.{◌≡◌, ◌≢◌, ◌⊎◌, ⊎_elim, inl, inr, ℕ, suc, ◌<◌, ◌≤◌, true, List, [], ◌∷◌, length, map, Option, None, Some, is_some, option_map, refl, sym, ap, subst, ◌∙◌, arith}
use Rattle.std.proofs.lemmas.Bool.{cases_eq, cases_lt}
use Rattle.std.proofs.lemmas.List.{get_or_append_left, get_or_past, get_or_push, length_push}
use Rattle.std.proofs.lemmas.Option.{none-some, same_Some}
use Rattle.sv_code.specs.declared.program.Component.{Component}
use Rattle.sv_code.specs.declared.program.Program.{Program}
use Rattle.sv_family.proofs.Course.{born_kin, with_born}
use Rattle.sv_family.proofs.Staying.{Stay, is_there, parent_live, child_live, above_stay, above_tags, shown_stays, live_stays}
use Rattle.sv_family.specs.Family.{AreParents, AreChildren, HaveCells, AreLent, IsShown, IsKept, is_parent, is_child_of, kid}
use Rattle.sv_family.specs.Kin.{Kin, Kins, tag_of, tag_at, tags_now, parent_of, parent_at, depth_of, depth_at}
use Rattle.sv_stands.specs.Standing.{OwnersFor, content_in}
use Rattle.sv_flush.specs.Creation.{cell_count}
use Rattle.sv_instance.specs.Standing.{Place}
use Rattle.sv_meaning.specs.Components.{component_at}
use Rattle.sv_numbered.specs.Numbered.{at}
use Rattle.sv_shapes.specs.Showing.{Showing, shown_of, child_at}
use Rattle.sv_shapes.specs.declared.shown.Shown.{Shown}
use Rattle.sv_stands.specs.Holds.{Hold}
use Rattle.sv_states.proofs.Altering.{at_within, option_cases}
use Rattle.sv_states.specs.declared.states.TheConstants.{DEPTH_LIMIT}
use Rattle.sv_tokens.specs.Counting.{one}
use Rattle.sv_view.specs.Level.{View}
use Rattle.sv_view.specs.View.{insts, levels_of}

-- an instance may be made at a place: its parent is live, and it is one deeper
pub record MayStand (ks : Kins) (place : Place) : Type 0 where
  pub live : (q : ℕ) → place.parent ≡ Some q → is_some (at ks q) ≡ true
  pub deeper : (q : ℕ) → place.parent ≡ Some q → place.depth ≡ suc (depth_at ks q)
  pub shallow : place.depth ≤ DEPTH_LIMIT
  pub tagged : (k : ℕ) → option_map (λ s. s.tag) place.standing ≡ Some k → is_some place.parent ≡ true

pub live_within : (ks : Kins) (q : ℕ) → is_some (at ks q) ≡ true → q < length ks
live_within ks q e = let k = is_there (at ks q) e in at_within ks q k.0 k.1

module _ (ks : Kins) (place : Place) (cells : ℕ) where
  abbrev later : Kins
  later = with_born ks place cells

  pub at_born : at later (length ks) ≡ Some (born_kin place cells)
  at_born = get_or_push ks (Some (born_kin place cells)) None (length ks) refl

  -- nobody had its number
  pub none_before : at ks (length ks) ≡ None
  none_before = get_or_past ks (length ks) None (omega arith)

  pub at_other : (n : ℕ) → n ≢ length ks → at later n ≡ at ks n
  at_other n other = ⊎_elim
      (λ below. get_or_append_left ks (Some (born_kin place cells) ∷ []) None n below)
      (λ past. get_or_past later n None (let e = length_push ks (Some (born_kin place cells)) in omega (arith, e, other, past)) ∙ sym (get_or_past ks n None past))
      (cases_lt n (length ks))

  pub live_other : (n : ℕ) → is_some (at ks n) ≡ true → n ≢ length ks
  live_other n e is = let k = is_there (at ks n) e in none-some k.0 (sym none_before ∙ (ap (at ks) (sym is) ∙ k.1))

  pub at_same : (n : ℕ) (kin : Kin) → at ks n ≡ Some kin → at later n ≡ Some kin
  at_same n kin e = at_other n (live_other n (ap is_some e)) ∙ e

  pub born_stay : Stay ks later
  born_stay n kin e = record { now = kin; is = at_same n kin e; place = refl; cells = refl }

  -- who is there was there, or was just made
  pub which : (n : ℕ) (kin : Kin) → at later n ≡ Some kin → (at ks n ≡ Some kin) ⊎ ((n ≡ length ks) × (kin ≡ born_kin place cells))
  which n kin e = ⊎_elim (λ is. inr (is, same_Some kin (born_kin place cells) (sym e ∙ (ap (at later) is ∙ at_born)))) (λ other. inl (sym (at_other n other) ∙ e)) (cases_eq n (length ks))

  pub born_parent : (n : ℕ) → n ≡ length ks → parent_at later n ≡ place.parent
  born_parent n is = ap (parent_at later) is ∙ ap parent_of at_born

  -- whose parent it is now, it was, or the place tells
  pub which_parent : (n q : ℕ) → parent_at later n ≡ Some q → (parent_at ks n ≡ Some q) ⊎ ((n ≡ length ks) × (place.parent ≡ Some q))
  which_parent n q e = ⊎_elim (λ is. inr (is, sym (born_parent n is) ∙ e)) (λ other. inl (sym (ap parent_of (at_other n other)) ∙ e)) (cases_eq n (length ks))

  depth_same : (q : ℕ) → is_some (at ks q) ≡ true → depth_at later q ≡ depth_at ks q
  depth_same q e = ap depth_of (at_other q (live_other q e))

  pub born_parents : AreParents ks → MayStand ks place → AreParents later
  born_parents h m = record {
    earlier = λ n q e. ⊎_elim (λ old. h.earlier n q old) (λ new. let w = live_within ks q (m.live q new.1) in let is = new.0 in omega (arith, w, is)) (which_parent n q e);
    live = λ n q e. ⊎_elim (λ old. live_stays ks later born_stay q (h.live n q old)) (λ new. live_stays ks later born_stay q (m.live q new.1)) (which_parent n q e);
    deeper = λ n q e. ⊎_elim
        (λ old. ap depth_of (at_other n (live_other n (ap is_some (parent_live ks n q old).1))) ∙ (h.deeper n q old ∙ ap suc (sym (depth_same q (h.live n q old)))))
        (λ new. ap (depth_at later) new.0 ∙ (ap depth_of at_born ∙ (m.deeper q new.1 ∙ ap suc (sym (depth_same q (m.live q new.1))))))
        (which_parent n q e);
    shallow = λ n. ⊎_elim
        (λ is. subst (λ z. z ≤ DEPTH_LIMIT) (sym (ap (depth_at later) is ∙ ap depth_of at_born)) m.shallow)
        (λ other. subst (λ z. z ≤ DEPTH_LIMIT) (sym (ap depth_of (at_other n other))) (h.shallow n))
        (cases_eq n (length ks));
    tagged = λ n k e. ⊎_elim
        (λ is. ap is_some (born_parent n is) ∙ m.tagged k (sym (ap (tag_at later) is ∙ ap tag_of at_born) ∙ e))
        (λ other. ap (λ o. is_some (parent_of o)) (at_other n other) ∙ h.tagged n k (sym (ap tag_of (at_other n other)) ∙ e))
        (cases_eq n (length ks));
  }

  pub born_cells : (p : Program) (c : Component) → component_at p place.component ≡ Some c → cells ≡ cell_count c → HaveCells p ks → HaveCells p later
  born_cells p c is enough h = λ n kin d e f. ⊎_elim
      (λ old. h n kin d old f)
      (λ new. ap (λ (k : Kin). k.cells) new.1 ∙ (enough ∙ ap cell_count (same_Some c d (sym is ∙ (ap (λ (k : Kin). component_at p k.place.component) (sym new.1) ∙ f)))))
      (which n kin e)

  pub not_lent : (kin : Kin) (v : View) → kin ≡ born_kin place cells → kin.lent ≡ Some v → ⊥
  not_lent kin v is e = none-some v (sym (ap (λ (k : Kin). k.lent) is) ∙ e)

  module _ (p : Program) (s : Showing) (parents : AreParents ks) (shown : (n : ℕ) (x : Shown) → shown_of s n ≡ Some x → IsShown p ks n x) where
    unseen_yet : shown_of s (length ks) ≡ None
    unseen_yet = ⊎_elim (λ none. none) (λ some. absurd (let h = shown (length ks) some.0 some.1 in none-some h.kin (sym none_before ∙ h.live))) (option_cases (shown_of s (length ks)))

    pub born_lent : AreLent p None ks s → (new : Option ℕ) → (is_some place.parent ≡ true → new ≡ Some (length ks)) → ((n : ℕ) → new ≡ Some n → length ks ≡ n) → AreLent p new later s
    born_lent h new is only = record {
      above = λ n kin v e l. ⊎_elim (λ old. above_stay ks later born_stay n (insts v) (h.above n kin v old l)) (λ made. absurd (not_lent kin v made.1 l)) (which n kin e);
      owners = λ n k kin v e l t. ⊎_elim
          (λ old.
          let tags = above_tags ks later born_stay parents n (insts v) (h.above n kin v old l) in
          subst (λ z. OwnersFor p (content_in p k) z v.owners) (sym tags) (h.owners n k kin v old l (sym (ap tag_of (at_other n (live_other n (ap is_some old)))) ∙ t)))
          (λ made. absurd (not_lent kin v made.1 l))
          (which n kin e);
      there = λ n kin e f l. ⊎_elim
          (λ old. ⊎_elim (λ none. absurd (none-some n none)) (λ lent. inr lent) (h.there n kin old f l))
          (λ made. inl (is (sym (ap (λ (k : Kin). is_some k.place.parent) made.1) ∙ f) ∙ ap Some (sym made.0)))
          (which n kin e);
      unseen = λ n e. subst (λ z. shown_of s z ≡ None) (only n e) unseen_yet;
    }

    same_tags : AreLent p None ks s → (n : ℕ) (kin : Kin) → at ks n ≡ Some kin → tags_now later n kin ≡ tags_now ks n kin
    same_tags h n kin e = by kin.lent refl
      where
        by : (o : Option View) → kin.lent ≡ o → map (tag_at later) (n ∷ map (λ l. l.inst) (levels_of o)) ≡ map (tag_at ks) (n ∷ map (λ l. l.inst) (levels_of o))
        by None l = ap (λ z. z ∷ []) (ap tag_of (at_other n (live_other n (ap is_some e))))
        by (Some v) l = ap (λ z. z ∷ map (tag_at later) (insts v)) (ap tag_of (at_other n (live_other n (ap is_some e)))) ∙ ap (λ z. tag_at ks n ∷ z) (above_tags ks later born_stay parents n (insts v) (h.above n kin v e l))

    pub born_shown : AreLent p None ks s → (n : ℕ) (x : Shown) → shown_of s n ≡ Some x → IsShown p later n x
    born_shown h n x is = let k = shown n x is in shown_stays ks later born_stay parents p n x k k.kin (at_same n k.kin k.live) (same_tags h n k.kin k.live)

    -- a child that was kept is kept
    pub born_kept : AreLent p None ks s → (h : Hold) (n : ℕ) (kin : Kin) → at ks n ≡ Some kin → IsKept ks h kin n → IsKept later h kin n
    born_kept h hold n kin e k = record {
      tag = ap tag_of (at_other n (live_other n (ap is_some e))) ∙ k.tag;
      tags = λ v l. above_tags ks later born_stay parents n (insts v) (h.above n kin v e l) ∙ k.tags v l;
    }

  -- whose child stands at a place that had it
  pub born_kid : (leaving : List ℕ) (s : Showing) → AreChildren leaving ks s → (r n : ℕ) → one (is_child_of later r (child_at s n)) ≡ kid ks s r n
  born_kid leaving s h r n = by (child_at s n) refl
    where
      by : (o : Option ℕ) → child_at s n ≡ o → one (is_child_of later r o) ≡ one (is_child_of ks r o)
      by None e = refl
      by (Some m) e = ap (λ o. one (is_parent r (parent_of o))) (at_other m (live_other m (child_live leaving ks s h n m e)))
