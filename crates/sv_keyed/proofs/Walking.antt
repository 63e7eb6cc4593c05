-- One more old key looked at, and one more new key placed.
use Rattle.std.proofs.Common.{◌≡◌, ℕ, zero, suc, ◌+◌, ◌<◌, ◌≤◌, List, [], ◌∷◌, ◌++◌, length, take, drop, refl, sym, ap, ◌∙◌, append_assoc, arith, Option, Some, None, subst, inl, inr}
use Rattle.std.specs.List.{slice_get}
use Rattle.std.proofs.lemmas.List.{append-nil, take_all, take-append-drop}
use Rattle.sv_value.specs.declared.key.Key.{Key}
use Rattle.sv_keyed.specs.Keys.{times, IsDistinct}
use Rattle.sv_keyed.specs.Steps.{without, put, key_at, apply, apply_all, IsFair, AreFair, IsSpot, HasSpot, HaveSpots}
use Rattle.sv_keyed.specs.Walk.{Dropping, Placing}
use Rattle.sv_keyed.specs.declared.step.KeyStep.{KeyStep}
use Rattle.sv_keyed.specs.declared.step.KeyStep.TheVariants.{Drop, Make, Shift}
use Rattle.sv_keyed.proofs.Times.{times-append, times-cons, times-self, times-one, times-without, without-append, without-past, put-before, drop_at, take_at, drop_end, snoc-same, zero_of}

apply-snoc : (old new : List Key) (steps : List KeyStep) (s : KeyStep) (xs : List Key) → apply_all old new (steps ++ s ∷ []) xs ≡ apply old new s (apply_all old new steps xs)
apply-snoc old new [] s xs = refl
apply-snoc old new (r ∷ steps) s xs = apply-snoc old new steps s (apply old new r xs)

fair-snoc : (old new : List Key) (steps : List KeyStep) (s : KeyStep) → AreFair old new steps → IsFair old new s → AreFair old new (steps ++ s ∷ [])
fair-snoc old new [] s h g = (g, tt)
fair-snoc old new (r ∷ steps) s h g = (h.0, fair-snoc old new steps s h.1 g)

spots-snoc : (old new : List Key) (steps : List KeyStep) (s : KeyStep) (xs : List Key) → HaveSpots old new steps xs → HasSpot new (apply_all old new steps xs) s → HaveSpots old new (steps ++ s ∷ []) xs
spots-snoc old new [] s xs h g = (g, tt)
spots-snoc old new (r ∷ steps) s xs h g = (h.0, spots-snoc old new steps s (apply old new r xs) h.1 g)

pub dropping-start : (old new : List Key) → Dropping old new [] [] 0
dropping-start old new = record { keys = refl; within = λ k. omega arith; left = λ k on. absurd (omega arith); known = λ k on. omega arith; fair = tt; spots = tt; idle = λ e. (refl, refl) }

module _ (old new : List Key) (steps : List KeyStep) (front : List Key) (i : ℕ) (key : Key) (here : slice_get old i ≡ Some key) (h : Dropping old new steps front i) where
  cut : drop i old ≡ key ∷ drop (i + 1) old
  cut = drop_at old i key here

  pub dropping-keep : 0 < times key new → Dropping old new steps (front ++ key ∷ []) (i + 1)
  dropping-keep in_new =
      let same : (k : Key) → times k (front ++ key ∷ []) + times k (drop (i + 1) old) ≡ times k front + times k (drop i old) =
      λ k. rw cut (omega (arith, times-append k front (key ∷ []), times-cons k key (drop (i + 1) old))) in
      record {
        keys = h.keys ∙ (rw (cut, append_assoc) refl);
        within = λ k. rw (same k) (h.within k);
        left = λ k on. elim (times-one k key) [ inl p ↦ subst (λ z. 0 < times z new) (sym p.0) in_new | inr p ↦ h.left k (omega (arith, times-append k front (key ∷ []))) ];
        known = λ k on. same k ∙ h.known k on;
        fair = h.fair;
        spots = h.spots;
        idle = λ e. ((h.idle e).0, (rw (take_at old i key here) (ap (λ z. z ++ key ∷ []) (h.idle e).1)));
      }

  pub dropping-drop : times key new ≡ 0 → Dropping old new (steps ++ Drop i ∷ []) front (i + 1)
  dropping-drop gone =
      let none : times key front ≡ 0 = zero_of (times key front) (λ on. omega (arith, h.left key on)) in
      record {
        keys = apply-snoc old new steps (Drop i) old ∙ (rw (here, h.keys, cut) (without-past key front (drop (i + 1) old) none));
        within = λ k. omega (arith, h.within k, ap (times k) cut, times-cons k key (drop (i + 1) old));
        left = h.left;
        known = λ k on. elim (times-one k key) [
          | inl p ↦ absurd (let no = subst (λ z. times z new ≡ 0) (sym p.0) gone in omega arith)
          | inr p ↦ omega (arith, h.known k on, ap (times k) cut, times-cons k key (drop (i + 1) old))
        ];
        fair = fair-snoc old new steps (Drop i) h.fair (key, here, gone);
        spots = spots-snoc old new steps (Drop i) old h.spots tt;
        idle = λ e. absurd (omega (arith, h.within key, ap (times key) cut, times-cons key key (drop (i + 1) old), times-self key, ap (times key) e));
      }

pub placing-start : (old new : List Key) (steps : List KeyStep) (front : List Key) → IsDistinct old → Dropping old new steps front (length old) → Placing old new steps front (length new)
placing-start old new steps front distinct h =
    let end = drop_end old (length old) (omega arith) in
    let end' = drop_end new (length new) (omega arith) in
    let all = take_all (length new) new (omega arith) in
    let all' = take_all (length old) old (omega arith) in
    record {
      keys = h.keys ∙ (rw (end, end') refl);
      once = λ k. omega (arith, h.within k, distinct k);
      left = λ k on. rw all (h.left k on);
      known = λ k on. omega (arith, h.known k (rw all at on), ap (times k) end);
      fair = h.fair;
      spots = h.spots;
      idle = λ e. ((h.idle e).0, (h.idle e).1 ∙ all' ∙ e ∙ sym all);
    }

-- the key behind a place, or the end
pub record IsBehind (j : ℕ) (new : List Key) (before : Option ℕ) : Type 0 where
  pub at_end : before ≡ None → length new ≤ j + 1
  pub inside : (b : ℕ) → before ≡ Some b → (b ≡ j + 1) × (j + 1 < length new)

pub behind-end : (j : ℕ) (new : List Key) → length new ≤ j + 1 → IsBehind j new None
behind-end j new le = record { at_end = λ e. le; inside = λ b e. cc }

pub behind-next : (j n : ℕ) (new : List Key) → n ≡ j + 1 → j + 1 < length new → IsBehind j new (Some n)
behind-next j n new is lt = record { at_end = λ e. cc; inside = λ b e. let same : n ≡ b = cc in (sym same ∙ is, lt) }

pub get_some : (xs : List Key) (i : ℕ) → i < length xs → (k : Key) × (slice_get xs i ≡ Some k)
get_some [] i lt = absurd (omega arith)
get_some (x ∷ xs) zero lt = (x, refl)
get_some (x ∷ xs) (suc i) lt = get_some xs i (omega arith)

module _ (old new : List Key) (steps : List KeyStep) (front : List Key) (j : ℕ) (key : Key) (here : slice_get new j ≡ Some key) (distinct : IsDistinct new) (h : Placing old new steps front (j + 1)) where
  tail-cut : drop j new ≡ key ∷ drop (j + 1) new
  tail-cut = drop_at new j key here

  head-more : take (j + 1) new ≡ take j new ++ key ∷ []
  head-more = take_at new j key here

  parts : (k : Key) → times k (take j new) + times k (drop j new) ≡ times k new
  parts k = sym (times-append k (take j new) (drop j new)) ∙ ap (times k) (take-append-drop j new)

  parts' : (k : Key) → times k (take (j + 1) new) + times k (drop (j + 1) new) ≡ times k new
  parts' k = sym (times-append k (take (j + 1) new) (drop (j + 1) new)) ∙ ap (times k) (take-append-drop (j + 1) new)

  -- the key does not stand before its place
  fresh : times key (take j new) ≡ 0
  fresh = omega (arith, parts key, distinct key, ap (times key) tail-cut, times-cons key key (drop (j + 1) new), times-self key)

  grown : (k : Key) → times k (take (j + 1) new) ≡ times k (take j new) + times k (key ∷ [])
  grown k = ap (times k) head-more ∙ times-append k (take j new) (key ∷ [])

  -- the key stands in front as often as in the old list
  pub times-front : times key front ≡ times key old
  times-front = h.known key (omega (arith, grown key, times-self key))

  -- what holds of the front without the key
  module _ (front' : List Key) (counts : (k : Key) → times k front' + times k (key ∷ []) ≡ times k front) where
    less-once : (k : Key) → times k front' ≤ 1
    less-once k = omega (arith, h.once k, counts k)

    less-left : (k : Key) → 0 < times k front' → 0 < times k (take j new)
    less-left k on = elim (times-one k key) [
      | inl p ↦ absurd (omega (arith, h.once k, counts k, p.1))
      | inr p ↦ (let was = h.left k (omega (arith, counts k)) in omega (arith, grown k))
    ]

    less-known : (k : Key) → 0 < times k (take j new) → times k front' ≡ times k old
    less-known k on = elim (times-one k key) [
      | inl p ↦ absurd (let no = subst (λ z. times z (take j new) ≡ 0) (sym p.0) fresh in omega arith)
      | inr p ↦ (let was = h.known k (omega (arith, grown k)) in omega (arith, counts k))
    ]

  pub placing-last : (front' : List Key) → front ≡ front' ++ key ∷ [] → Placing old new steps front' j
  placing-last front' is =
      let counts : (k : Key) → times k front' + times k (key ∷ []) ≡ times k front = λ k. sym (ap (times k) is ∙ times-append k front' (key ∷ [])) in
      record {
        keys = h.keys ∙ (rw (is, tail-cut, append_assoc) refl);
        once = less-once front' counts;
        left = less-left front' counts;
        known = less-known front' counts;
        fair = h.fair;
        spots = h.spots;
        idle = λ e. ((h.idle e).0, snoc-same front' (take j new) key (sym is ∙ (h.idle e).1 ∙ head-more));
      }

  -- a key put where the new list has it
  put-here : (rest : List Key) (before : Option ℕ) → IsBehind j new before → ((k : Key) → times k rest ≤ times k front) → put key (key_at new before) (rest ++ drop (j + 1) new) ≡ rest ++ drop j new
  put-here rest None behind few =
      let end = drop_end new (j + 1) (behind.at_end refl) in
      rw (tail-cut, end, append-nil) refl
  put-here rest (Some b) behind few = before_next (behind.inside b refl) (get_some new (j + 1) (behind.inside b refl).1)
    where
      absent : (n : Key) → drop (j + 1) new ≡ n ∷ drop (j + 1 + 1) new → times n rest ≡ 0
      absent n next = zero_of (times n rest) (λ on.
          let was : 0 < times n front = omega (arith, few n) in
          omega (arith, h.left n was, parts' n, distinct n, ap (times n) next, times-cons n n (drop (j + 1 + 1) new), times-self n))

      before_next : (b ≡ j + 1) × (j + 1 < length new) → (k : Key) × (slice_get new (j + 1) ≡ Some k) → put key (slice_get new b) (rest ++ drop (j + 1) new) ≡ rest ++ drop j new
      before_next place next =
          let cut_next = drop_at new (j + 1) next.0 next.1 in
          rw (place.0, next.1, tail-cut, cut_next) (put-before key next.0 rest (drop (j + 1 + 1) new) (absent next.0 cut_next))

  -- what the new list has behind the key stands there
  spot-here : (rest : List Key) (before : Option ℕ) → IsBehind j new before → IsSpot new (rest ++ drop (j + 1) new) before
  spot-here rest None behind = tt
  spot-here rest (Some b) behind =
      let place = behind.inside b refl in
      let next = get_some new (j + 1) place.1 in
      let cut_next = drop_at new (j + 1) next.0 next.1 in
      (next.0, ap (slice_get new) place.0 ∙ next.1, omega (arith, times-append next.0 rest (drop (j + 1) new), ap (times next.0) cut_next, times-cons next.0 next.0 (drop (j + 1 + 1) new), times-self next.0))

  pub placing-inside : (front' : List Key) (before : Option ℕ) → IsBehind j new before → front' ≡ without key front → 0 < times key front →
      ((xs : List Key) → front ≡ xs ++ key ∷ [] → ⊥) → Placing old new (steps ++ Shift j before ∷ []) front' j
  placing-inside front' before behind is on_front never =
      let counts : (k : Key) → times k front' + times k (key ∷ []) ≡ times k front = λ k. rw is (times-without k key front on_front) in
      let gone : without key (front ++ drop (j + 1) new) ≡ front' ++ drop (j + 1) new = without-append key front (drop (j + 1) new) on_front ∙ ap (λ z. z ++ drop (j + 1) new) (sym is) in
      record {
        keys = apply-snoc old new steps (Shift j before) old ∙ (rw (here, h.keys, gone) (put-here front' before behind (λ k. omega (arith, counts k))));
        once = less-once front' counts;
        left = less-left front' counts;
        known = less-known front' counts;
        fair = fair-snoc old new steps (Shift j before) h.fair (key, here, omega (arith, on_front, times-front));
        spots = spots-snoc old new steps (Shift j before) old h.spots (rw (here, h.keys, gone) (spot-here front' before behind));
        idle = λ e. absurd (never (take j new) ((h.idle e).1 ∙ head-more));
      }

  pub placing-absent : (before : Option ℕ) → IsBehind j new before → times key old ≡ 0 → Placing old new (steps ++ Make j before ∷ []) front j
  placing-absent before behind none =
      let other : (k : Key) → 0 < times k front → times k (key ∷ []) ≡ 0 = λ k on. elim (times-one k key) [
        | inl p ↦ absurd (let no = subst (λ z. times z front ≡ 0) (sym p.0) (times-front ∙ none) in omega arith)
        | inr p ↦ p
      ] in
      record {
        keys = apply-snoc old new steps (Make j before) old ∙ (rw (here, h.keys) (put-here front before behind (λ k. omega arith)));
        once = h.once;
        left = λ k on. omega (arith, h.left k on, grown k, other k on);
        known = λ k on. h.known k (omega (arith, grown k));
        fair = fair-snoc old new steps (Make j before) h.fair (key, here, none);
        spots = spots-snoc old new steps (Make j before) old h.spots (rw h.keys (spot-here front before behind));
        idle = λ e. absurd (omega (arith, none, times-front, ap (times key) ((h.idle e).1 ∙ head-more), times-append key (take j new) (key ∷ []), times-self key));
      }

pub placed : (old new : List Key) (steps : List KeyStep) (front : List Key) → Placing old new steps front 0 → front ≡ []
placed old new steps [] h = refl
placed old new steps (x ∷ front) h = absurd (omega (arith, h.left x (omega (arith, times-cons x x front, times-self x))))
