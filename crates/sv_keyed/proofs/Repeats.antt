-- Keys that stand again, and places as keys are noted.
use Rattle.std.proofs.Common.{◌≡◌, ℕ, ◌+◌, ◌<◌, ◌≤◌, Bool, true, false, eqb, cond, List, [], ◌∷◌, ◌++◌, length, take, drop, refl, sym, ap, ◌∙◌, append_assoc, arith, Option, Some, None, subst, inl, inr, MatchOption}
use Rattle.std.specs.List.{slice_get}
use Rattle.std.specs.Option.{is_some}
use Rattle.std.proofs.lemmas.List.{append-nil, take_all}
use Rattle.std.proofs.lemmas.Bool.{eqb-true}
use Rattle.sv_value.specs.declared.key.Key.{Key}
use Rattle.sv_keyed.specs.Keys.{same_key, times, IsDistinct, repeat_after, first_repeat, place_after}
use Rattle.sv_keyed.specs.Places.{FindsPlaces}
use Rattle.sv_keyed.proofs.Times.{same_key-true, same_key-self, times-append, times-self, times-one, drop_at, take_at, drop_end}

-- where no key is met again, none stands twice
repeat-distinct : (seen ks : List Key) → IsDistinct seen → repeat_after seen ks ≡ None → IsDistinct (seen ++ ks)
repeat-distinct seen [] distinct none = rw append-nil distinct
repeat-distinct seen (k ∷ ks) distinct none = go (eqb (times k seen) 0) refl none (λ d n. repeat-distinct (seen ++ k ∷ []) ks d n)
  where
    more : times k seen ≡ 0 → IsDistinct (seen ++ k ∷ [])
    more zero_times x = elim (times-one x k) [
      | inl p ↦ (let here = subst (λ z. times z seen ≡ 0) (sym p.0) zero_times in omega (arith, times-append x seen (k ∷ [])))
      | inr p ↦ omega (arith, distinct x, times-append x seen (k ∷ []))
    ]

    go : (b : Bool) → eqb (times k seen) 0 ≡ b → cond b (repeat_after (seen ++ k ∷ []) ks) (Some k) ≡ None →
        (IsDistinct (seen ++ k ∷ []) → repeat_after (seen ++ k ∷ []) ks ≡ None → IsDistinct ((seen ++ k ∷ []) ++ ks)) → IsDistinct (seen ++ k ∷ ks)
    go true e none rest =
        let all = rest (more (eqb-true (times k seen) 0 e)) none in
        rw append_assoc at all
    go false e none rest = absurd (cc)

pub distinct_of : (keys : List Key) → first_repeat keys ≡ None → IsDistinct keys
distinct_of keys none = repeat-distinct [] keys (λ k. omega arith) none

pub repeat-more : (keys : List Key) (i : ℕ) (k : Key) → slice_get keys i ≡ Some k → times k (take i keys) ≡ 0 →
    repeat_after (take i keys) (drop i keys) ≡ repeat_after (take (i + 1) keys) (drop (i + 1) keys)
repeat-more keys i k here none = let cut = drop_at keys i k here in rw (cut, take_at keys i k here, none) refl

pub repeat-here : (keys : List Key) (i : ℕ) (k : Key) → slice_get keys i ≡ Some k → 0 < times k (take i keys) → repeat_after (take i keys) (drop i keys) ≡ Some k
repeat-here keys i k here some = let cut = drop_at keys i k here in rw cut (go (eqb (times k (take i keys)) 0) refl)
  where
    go : (b : Bool) → eqb (times k (take i keys)) 0 ≡ b → cond b (repeat_after (take i keys ++ k ∷ []) (drop (i + 1) keys)) (Some k) ≡ Some k
    go true e = absurd (omega (arith, some, eqb-true (times k (take i keys)) 0 e))
    go false e = refl

pub repeat-end : (keys : List Key) (i : ℕ) → length keys ≤ i → repeat_after (take i keys) (drop i keys) ≡ None
repeat-end keys i le = let end = drop_end keys i le in rw end refl

differs : (key : Key) → same_key key key ≡ false → ⊥
differs key e = let self = same_key-self key in cc

-- places
pub finds-more : (find find' : Key → Option ℕ) (keys : List Key) (i : ℕ) (key : Key) → slice_get keys i ≡ Some key → FindsPlaces find keys (take i keys) →
    ((k : Key) → find' k ≡ cond (same_key key k) (Some i) (find k)) → FindsPlaces find' keys (take (i + 1) keys)
finds-more find find' keys i key here h noted = record { at = λ k. rw (noted k, take_at keys i key here) (go k (same_key key k) refl (find k) (h.at k)) }
  where
    go : (k : Key) (b : Bool) → same_key key k ≡ b → (f : Option ℕ) → MatchOption f (times k (take i keys) ≡ 0) (λ p. (slice_get keys p ≡ Some k) × (0 < times k (take i keys))) →
        MatchOption (cond b (Some i) f) (times k (take i keys ++ key ∷ []) ≡ 0) (λ p. (slice_get keys p ≡ Some k) × (0 < times k (take i keys ++ key ∷ [])))
    go k true e f was =
        let same : key ≡ k = same_key-true key k e in
        (here ∙ ap Some same, rw same (omega (arith, times-append k (take i keys) (k ∷ []), times-self k)))
    go k false e None was = elim (times-one k key) [
      | inl p ↦ (let apart : same_key key key ≡ false = ap (same_key key) (sym p.0) ∙ e in absurd (differs key apart))
      | inr p ↦ omega (arith, times-append k (take i keys) (key ∷ []), was, p)
    ]
    go k false e (Some p) was = (was.0, omega (arith, times-append k (take i keys) (key ∷ []), was.1))

pub finds-all : (find : Key → Option ℕ) (keys : List Key) (i : ℕ) → length keys ≤ i → FindsPlaces find keys (take i keys) → FindsPlaces find keys keys
finds-all find keys i le h = subst (FindsPlaces find keys) (take_all i keys le) h

pub finds-absent : (find : Key → Option ℕ) (keys seen : List Key) (k : Key) → FindsPlaces find keys seen → is_some (find k) ≡ false → times k seen ≡ 0
finds-absent find keys seen k h none = go (find k) (h.at k) none
  where
    go : (f : Option ℕ) → MatchOption f (times k seen ≡ 0) (λ p. (slice_get keys p ≡ Some k) × (0 < times k seen)) → is_some f ≡ false → times k seen ≡ 0
    go None was e = was
    go (Some p) was e = cc

pub finds-present : (find : Key → Option ℕ) (keys seen : List Key) (k : Key) → FindsPlaces find keys seen → is_some (find k) ≡ true → 0 < times k seen
finds-present find keys seen k h some = go (find k) (h.at k) some
  where
    go : (f : Option ℕ) → MatchOption f (times k seen ≡ 0) (λ p. (slice_get keys p ≡ Some k) × (0 < times k seen)) → is_some f ≡ true → 0 < times k seen
    go None was e = cc
    go (Some p) was e = was.1

pub finds-at : (find : Key → Option ℕ) (keys seen : List Key) (k : Key) (p : ℕ) → FindsPlaces find keys seen → find k ≡ Some p → slice_get keys p ≡ Some k
finds-at find keys seen k p h e = let found = h.at k in (rw e at found).0

-- the last place, one key further
pub place-more : (keys : List Key) (i : ℕ) (key k : Key) (found : Option ℕ) → slice_get keys i ≡ Some key →
    place_after found i (drop i keys) k ≡ place_after (cond (same_key key k) (Some i) found) (i + 1) (drop (i + 1) keys) k
place-more keys i key k found here = let cut = drop_at keys i key here in rw cut refl

pub place-end : (keys : List Key) (i : ℕ) (k : Key) (found : Option ℕ) → length keys ≤ i → place_after found i (drop i keys) k ≡ found
place-end keys i k found le = let end = drop_end keys i le in rw end refl
