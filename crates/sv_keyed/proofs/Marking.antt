-- The keys without a mark, as marks are set.
use Rattle.std.proofs.Common.{◌≡◌, ◌≢◌, ℕ, zero, suc, ◌+◌, ◌<◌, ◌≤◌, Bool, true, false, cond, List, [], ◌∷◌, ◌++◌, length, take, get_or, set, refl, sym, ap, ◌∙◌, arith, Some, subst}
use Rattle.std.specs.List.{slice_get}
use Rattle.std.proofs.lemmas.List.{append-nil}
use Rattle.sv_value.specs.declared.key.Key.{Key}
use Rattle.sv_keyed.specs.Keys.{same_key, times, IsDistinct}
use Rattle.sv_keyed.specs.Steps.{without}
use Rattle.sv_keyed.specs.Marks.{left, AreMarked}
use Rattle.sv_keyed.proofs.Times.{same_key-true, same_key-self, times-cons, times-self, times-at, snoc-last, take_at}

pub times-left : (k : Key) (ms : List Bool) (xs : List Key) → times k (left ms xs) ≤ times k xs
times-left k [] xs = omega arith
times-left k (m ∷ ms) [] = omega arith
times-left k (true ∷ ms) (x ∷ xs) = omega (arith, times-left k ms xs, times-cons k x xs)
times-left k (false ∷ ms) (x ∷ xs) = omega (arith, times-left k ms xs, times-cons k x xs, times-cons k x (left ms xs))

distinct-rest : (x : Key) (xs : List Key) → IsDistinct (x ∷ xs) → IsDistinct xs
distinct-rest x xs distinct k = omega (arith, distinct k, times-cons k x xs)

-- a key that stands later is another one
other_key : (x : Key) (xs : List Key) (i : ℕ) (key : Key) → IsDistinct (x ∷ xs) → slice_get xs i ≡ Some key → same_key key x ≡ false
other_key x xs i key distinct here = go (same_key key x) refl
  where
    go : (b : Bool) → same_key key x ≡ b → b ≡ false
    go false e = refl
    go true e =
        let same : key ≡ x = same_key-true key x e in
        let there : slice_get xs i ≡ Some x = here ∙ ap Some same in
        absurd (omega (arith, distinct x, times-cons x x xs, times-self x, times-at xs i x there))

-- no key stands at two places
pub place_unique : (xs : List Key) (i e : ℕ) (key : Key) → IsDistinct xs → slice_get xs i ≡ Some key → slice_get xs e ≡ Some key → i ≡ e
place_unique [] i e key distinct p q = cc
place_unique (x ∷ xs) zero zero key distinct p q = refl
place_unique (x ∷ xs) zero (suc e) key distinct p q =
    let apart = other_key x xs e key distinct q in
    let same : x ≡ key = cc in
    let self = ap (same_key key) same ∙ same_key-self key in cc
place_unique (x ∷ xs) (suc i) zero key distinct p q =
    let apart = other_key x xs i key distinct p in
    let same : x ≡ key = cc in
    let self = ap (same_key key) same ∙ same_key-self key in cc
place_unique (x ∷ xs) (suc i) (suc e) key distinct p q = ap suc (place_unique xs i e key (distinct-rest x xs distinct) p q)

-- a key that is left has no mark
pub unmarked : (ms : List Bool) (xs : List Key) (i : ℕ) (key : Key) → IsDistinct xs → slice_get xs i ≡ Some key → 0 < times key (left ms xs) → get_or ms i true ≡ false
unmarked [] xs i key distinct here on = absurd (omega arith)
unmarked (m ∷ ms) [] i key distinct here on = cc
unmarked (true ∷ ms) (x ∷ xs) zero key distinct here on =
    let same : x ≡ key = cc in
    let there : 0 < times x (left ms xs) = subst (λ z. 0 < times z (left ms xs)) (sym same) on in
    absurd (omega (arith, times-left x ms xs, distinct x, times-cons x x xs, times-self x))
unmarked (false ∷ ms) (x ∷ xs) zero key distinct here on = refl
unmarked (true ∷ ms) (x ∷ xs) (suc i) key distinct here on = unmarked ms xs i key (distinct-rest x xs distinct) here on
unmarked (false ∷ ms) (x ∷ xs) (suc i) key distinct here on =
    let apart = other_key x xs i key distinct here in
    unmarked ms xs i key (distinct-rest x xs distinct) here (rw apart at on)

-- a mark takes its key out
pub left-set : (ms : List Bool) (xs : List Key) (i : ℕ) (key : Key) → IsDistinct xs → slice_get xs i ≡ Some key → get_or ms i true ≡ false → left (set ms i true) xs ≡ without key (left ms xs)
left-set [] xs i key distinct here free = cc
left-set (m ∷ ms) [] i key distinct here free = cc
left-set (true ∷ ms) (x ∷ xs) zero key distinct here free = cc
left-set (false ∷ ms) (x ∷ xs) zero key distinct here free =
    let same : x ≡ key = cc in
    let self : same_key key x ≡ true = ap (same_key key) same ∙ same_key-self key in
    rw self refl
left-set (true ∷ ms) (x ∷ xs) (suc i) key distinct here free = left-set ms xs i key (distinct-rest x xs distinct) here free
left-set (false ∷ ms) (x ∷ xs) (suc i) key distinct here free =
    let apart = other_key x xs i key distinct here in
    rw apart (ap (λ z. x ∷ z) (left-set ms xs i key (distinct-rest x xs distinct) here free))

left-none : (ms : List Bool) (xs : List Key) → ((k : ℕ) → k < length ms → get_or ms k true ≡ true) → left ms xs ≡ []
left-none [] xs all = refl
left-none (m ∷ ms) [] all = refl
left-none (m ∷ ms) (x ∷ xs) all =
    let first : m ≡ true = all 0 (omega arith) in
    rw first (left-none ms xs (λ k lt. all (suc k) (omega arith)))

-- where only marks follow, the key is the last
pub left-last : (ms : List Bool) (xs : List Key) (i : ℕ) (key : Key) → slice_get xs i ≡ Some key → get_or ms i true ≡ false → ((k : ℕ) → i < k → k < length ms → get_or ms k true ≡ true) →
    left ms xs ≡ left (set ms i true) xs ++ key ∷ []
left-last [] xs i key here free all = cc
left-last (m ∷ ms) [] i key here free all = cc
left-last (true ∷ ms) (x ∷ xs) zero key here free all = cc
left-last (false ∷ ms) (x ∷ xs) zero key here free all =
    let same : x ≡ key = cc in
    let none = left-none ms xs (λ k lt. all (suc k) (omega arith) (omega arith)) in
    rw (none, same) refl
left-last (true ∷ ms) (x ∷ xs) (suc i) key here free all = left-last ms xs i key here free (λ k above lt. all (suc k) (omega arith) (omega arith))
left-last (false ∷ ms) (x ∷ xs) (suc i) key here free all = ap (λ z. x ∷ z) (left-last ms xs i key here free (λ k above lt. all (suc k) (omega arith) (omega arith)))

-- a key that another follows is not the last
pub left-inside : (ms : List Bool) (xs : List Key) (i e : ℕ) (key last : Key) → IsDistinct xs → slice_get xs i ≡ Some key → slice_get xs e ≡ Some last → i ≢ e → get_or ms e true ≡ false →
    ((k : ℕ) → e < k → k < length ms → get_or ms k true ≡ true) → (ys : List Key) → left ms xs ≡ ys ++ key ∷ [] → ⊥
left-inside ms xs i e key last distinct here there apart free all ys is =
    let same : key ≡ last = snoc-last ys (left (set ms e true) xs) key last (sym is ∙ left-last ms xs e last there free all) in
    apart (place_unique xs i e key distinct here (there ∙ ap Some (sym same)))

-- the marks as keys are looked at
pub left-push : (ms : List Bool) (xs : List Key) (key : Key) (m : Bool) → length ms ≡ length xs → left (ms ++ m ∷ []) (xs ++ key ∷ []) ≡ left ms xs ++ cond m [] (key ∷ [])
left-push [] [] key true e = refl
left-push [] [] key false e = refl
left-push [] (x ∷ xs) key m e = absurd (omega arith)
left-push (n ∷ ms) [] key m e = absurd (omega arith)
left-push (true ∷ ms) (x ∷ xs) key m e = left-push ms xs key m (omega arith)
left-push (false ∷ ms) (x ∷ xs) key m e = ap (λ z. x ∷ z) (left-push ms xs key m (omega arith))

take-length : (xs : List Key) (i : ℕ) (key : Key) → slice_get xs i ≡ Some key → length (take i xs) ≡ i
take-length [] i key here = cc
take-length (x ∷ xs) zero key here = refl
take-length (x ∷ xs) (suc i) key here = ap suc (take-length xs i key here)

pub left-keep : (ms : List Bool) (xs : List Key) (i : ℕ) (key : Key) → length ms ≡ i → slice_get xs i ≡ Some key → left (ms ++ false ∷ []) (take (i + 1) xs) ≡ left ms (take i xs) ++ key ∷ []
left-keep ms xs i key long here = rw (take_at xs i key here) (left-push ms (take i xs) key false (long ∙ sym (take-length xs i key here)))

pub left-drop : (ms : List Bool) (xs : List Key) (i : ℕ) (key : Key) → length ms ≡ i → slice_get xs i ≡ Some key → left (ms ++ true ∷ []) (take (i + 1) xs) ≡ left ms (take i xs)
left-drop ms xs i key long here = rw (take_at xs i key here) (left-push ms (take i xs) key true (long ∙ sym (take-length xs i key here)) ∙ append-nil (left ms (take i xs)))

pub marked-set : (ms : List Bool) (i end : ℕ) → AreMarked ms end → AreMarked (set ms i true) end
marked-set ms i end h = record { at = λ k le lt. go ms i k (λ lt'. h.at k le lt') lt }
  where
    go : (ms : List Bool) (i k : ℕ) → (k < length ms → get_or ms k true ≡ true) → k < length (set ms i true) → get_or (set ms i true) k true ≡ true
    go [] i k was lt = absurd (omega arith)
    go (m ∷ ms) zero zero was lt = refl
    go (m ∷ ms) zero (suc k) was lt = was lt
    go (m ∷ ms) (suc i) zero was lt = was (omega arith)
    go (m ∷ ms) (suc i) (suc k) was lt = go ms i k (λ lt'. was (omega arith)) (omega arith)
