-- How often keys stand in lists, and lists cut at a place.
use Rattle.std.proofs.Common.{◌≡◌, ℕ, zero, suc, ◌+◌, ◌<◌, ◌≤◌, Bool, true, false, cond, List, [], ◌∷◌, ◌++◌, length, take, drop, get_or, refl, sym, ap, arith, Some, inl, inr, ◌⊎◌, add-one}
use Rattle.std.proofs.lemmas.List.{length-append}
use Rattle.std.specs.List.{slice_get}
use Rattle.std.specs.Cmp.{signed_Decides, booleans_Decides}
use Rattle.std.specs.Cmp.Lexicographic.{bytes_decides}
use Rattle.sv_value.specs.declared.key.Key.{Key}
use Rattle.sv_value.specs.declared.key.Key.TheVariants.{Num, Text, Bool as Truth}
use Rattle.sv_keyed.specs.Keys.{same_key, times}
use Rattle.sv_keyed.specs.Steps.{without, put}

pub same_key-true : (a b : Key) → same_key a b ≡ true → a ≡ b
same_key-true (Num a) (Num b) e = ap Num ((signed_Decides a b).0 e)
same_key-true (Num a) (Text b) e = cc
same_key-true (Num a) (Truth b) e = cc
same_key-true (Text a) (Num b) e = cc
same_key-true (Text a) (Text b) e = ap Text ((bytes_decides a b).0 e)
same_key-true (Text a) (Truth b) e = cc
same_key-true (Truth a) (Num b) e = cc
same_key-true (Truth a) (Text b) e = cc
same_key-true (Truth a) (Truth b) e = ap Truth ((booleans_Decides a b).0 e)

pub same_key-self : (a : Key) → same_key a a ≡ true
same_key-self (Num a) = (signed_Decides a a).1 refl
same_key-self (Text a) = (bytes_decides a a).1 refl
same_key-self (Truth a) = (booleans_Decides a a).1 refl

pub times-append : (k : Key) (xs ys : List Key) → times k (xs ++ ys) ≡ times k xs + times k ys
times-append k [] ys = omega arith
times-append k (x ∷ xs) ys = go (same_key k x) (times-append k xs ys)
  where
    go : (b : Bool) → times k (xs ++ ys) ≡ times k xs + times k ys → cond b (suc (times k (xs ++ ys))) (times k (xs ++ ys)) ≡ cond b (suc (times k xs)) (times k xs) + times k ys
    go true e = omega arith
    go false e = e

pub times-cons : (k x : Key) (xs : List Key) → times k (x ∷ xs) ≡ times k (x ∷ []) + times k xs
times-cons k x xs = times-append k (x ∷ []) xs

pub times-self : (k : Key) → times k (k ∷ []) ≡ 1
times-self k = rw (same_key-self k) refl

-- a key stands once in a list of one key if it is that key, and else not at all
pub times-one : (k x : Key) → ((k ≡ x) × (times k (x ∷ []) ≡ 1)) ⊎ (times k (x ∷ []) ≡ 0)
times-one k x = go (same_key k x) refl
  where
    go : (b : Bool) → same_key k x ≡ b → ((k ≡ x) × (cond b (suc (times k [])) (times k []) ≡ 1)) ⊎ (cond b (suc (times k [])) (times k []) ≡ 0)
    go true e = inl (same_key-true k x e, refl)
    go false e = inr refl

pub times-without : (k key : Key) (xs : List Key) → 0 < times key xs → times k (without key xs) + times k (key ∷ []) ≡ times k xs
times-without k key [] lt = absurd (omega arith)
times-without k key (x ∷ xs) lt = go (same_key key x) refl lt (times-without k key xs)
  where
    go : (b : Bool) → same_key key x ≡ b → 0 < cond b (suc (times key xs)) (times key xs) → (0 < times key xs → times k (without key xs) + times k (key ∷ []) ≡ times k xs) →
        times k (cond b xs (x ∷ without key xs)) + times k (key ∷ []) ≡ times k (x ∷ xs)
    go true e lt ih = let same : key ≡ x = same_key-true key x e in rw same (omega (arith, times-cons k x xs))
    go false e lt ih = omega (arith, ih lt, times-cons k x xs, times-cons k x (without key xs))

pub without-append : (key : Key) (xs ys : List Key) → 0 < times key xs → without key (xs ++ ys) ≡ without key xs ++ ys
without-append key [] ys lt = absurd (omega arith)
without-append key (x ∷ xs) ys lt = go (same_key key x) lt (without-append key xs ys)
  where
    go : (b : Bool) → 0 < cond b (suc (times key xs)) (times key xs) → (0 < times key xs → without key (xs ++ ys) ≡ without key xs ++ ys) →
        cond b (xs ++ ys) (x ∷ without key (xs ++ ys)) ≡ cond b xs (x ∷ without key xs) ++ ys
    go true lt ih = refl
    go false lt ih = ap (λ z. x ∷ z) (ih lt)

pub without-past : (key : Key) (xs ys : List Key) → times key xs ≡ 0 → without key (xs ++ key ∷ ys) ≡ xs ++ ys
without-past key [] ys none = rw (same_key-self key) refl
without-past key (x ∷ xs) ys none = go (same_key key x) none (without-past key xs ys)
  where
    go : (b : Bool) → cond b (suc (times key xs)) (times key xs) ≡ 0 → (times key xs ≡ 0 → without key (xs ++ key ∷ ys) ≡ xs ++ ys) →
        cond b (xs ++ key ∷ ys) (x ∷ without key (xs ++ key ∷ ys)) ≡ x ∷ (xs ++ ys)
    go true none ih = absurd (omega arith)
    go false none ih = ap (λ z. x ∷ z) (ih none)

pub put-before : (key b : Key) (xs ys : List Key) → times b xs ≡ 0 → put key (Some b) (xs ++ b ∷ ys) ≡ xs ++ key ∷ b ∷ ys
put-before key b [] ys none = rw (same_key-self b) refl
put-before key b (x ∷ xs) ys none = go (same_key b x) none (put-before key b xs ys)
  where
    go : (c : Bool) → cond c (suc (times b xs)) (times b xs) ≡ 0 → (times b xs ≡ 0 → put key (Some b) (xs ++ b ∷ ys) ≡ xs ++ key ∷ b ∷ ys) →
        cond c (key ∷ x ∷ (xs ++ b ∷ ys)) (x ∷ put key (Some b) (xs ++ b ∷ ys)) ≡ x ∷ (xs ++ key ∷ b ∷ ys)
    go true none ih = absurd (omega arith)
    go false none ih = ap (λ z. x ∷ z) (ih none)

-- a list at a place where a key stands
pub get_at : (xs : List Key) (i : ℕ) (k : Key) → i < length xs → k ≡ get_or xs i k → slice_get xs i ≡ Some k
get_at [] i k lt e = absurd (omega arith)
get_at (x ∷ xs) zero k lt e = ap Some (sym e)
get_at (x ∷ xs) (suc i) k lt e = get_at xs i k (omega arith) e

pub place_below : (xs : List Key) (i : ℕ) (k : Key) → slice_get xs i ≡ Some k → i < length xs
place_below [] i k e = cc
place_below (x ∷ xs) zero k e = omega arith
place_below (x ∷ xs) (suc i) k e = omega (arith, place_below xs i k e)

drop-suc : (xs : List Key) (i : ℕ) (k : Key) → slice_get xs i ≡ Some k → drop i xs ≡ k ∷ drop (suc i) xs
drop-suc [] i k e = cc
drop-suc (x ∷ xs) zero k e = let same : x ≡ k = cc in ap (λ z. z ∷ xs) same
drop-suc (x ∷ xs) (suc i) k e = drop-suc xs i k e

pub drop_at : (xs : List Key) (i : ℕ) (k : Key) → slice_get xs i ≡ Some k → drop i xs ≡ k ∷ drop (i + 1) xs
drop_at xs i k e = rw add-one (drop-suc xs i k e)

take-suc : (xs : List Key) (i : ℕ) (k : Key) → slice_get xs i ≡ Some k → take (suc i) xs ≡ take i xs ++ k ∷ []
take-suc [] i k e = cc
take-suc (x ∷ xs) zero k e = let same : x ≡ k = cc in ap (λ z. z ∷ []) same
take-suc (x ∷ xs) (suc i) k e = ap (λ z. x ∷ z) (take-suc xs i k e)

pub take_at : (xs : List Key) (i : ℕ) (k : Key) → slice_get xs i ≡ Some k → take (i + 1) xs ≡ take i xs ++ k ∷ []
take_at xs i k e = rw add-one (take-suc xs i k e)

pub drop_end : (xs : List Key) (i : ℕ) → length xs ≤ i → drop i xs ≡ []
drop_end [] zero le = refl
drop_end [] (suc i) le = refl
drop_end (x ∷ xs) zero le = absurd (omega arith)
drop_end (x ∷ xs) (suc i) le = drop_end xs i (omega arith)

pub snoc-same : (xs ys : List Key) (a : Key) → xs ++ a ∷ [] ≡ ys ++ a ∷ [] → xs ≡ ys
snoc-same [] [] a e = refl
snoc-same [] (y ∷ ys) a e = absurd (omega (arith, ap length e, length-append ys (a ∷ [])))
snoc-same (x ∷ xs) [] a e = absurd (omega (arith, ap length e, length-append xs (a ∷ [])))
snoc-same (x ∷ xs) (y ∷ ys) a e =
    let first : x ≡ y = cc in
    let more : xs ++ a ∷ [] ≡ ys ++ a ∷ [] = cc in
    let rest = snoc-same xs ys a more in cc

pub snoc-last : (xs ys : List Key) (a b : Key) → xs ++ a ∷ [] ≡ ys ++ b ∷ [] → a ≡ b
snoc-last [] [] a b e = cc
snoc-last [] (y ∷ ys) a b e = absurd (omega (arith, ap length e, length-append ys (b ∷ [])))
snoc-last (x ∷ xs) [] a b e = absurd (omega (arith, ap length e, length-append xs (a ∷ [])))
snoc-last (x ∷ xs) (y ∷ ys) a b e = let more : xs ++ a ∷ [] ≡ ys ++ b ∷ [] = cc in snoc-last xs ys a b more

-- a key stands where it is found
pub times-at : (xs : List Key) (i : ℕ) (k : Key) → slice_get xs i ≡ Some k → 0 < times k xs
times-at [] i k e = cc
times-at (x ∷ xs) zero k e = let same : x ≡ k = cc in rw same (omega (arith, times-cons k k xs, times-self k))
times-at (x ∷ xs) (suc i) k e = omega (arith, times-at xs i k e, times-cons k x xs)

pub zero_of : (m : ℕ) → (0 < m → ⊥) → m ≡ 0
zero_of zero f = refl
zero_of (suc m) f = absurd (f (omega arith))
