-- Steps for the items of a list in turn.
use Rattle.std.proofs.Common.{◌≡◌, ℕ, zero, suc, ◌≤◌, List, [], ◌∷◌, map, length, Option, Some, None, refl, ap, ap₂, subst}
use Rattle.std.specs.Prelude.{slice_get}
use Rattle.sv_code.specs.Names.{Each}
use Rattle.sv_parts.specs.State.{Run, each, one}
use Rattle.sv_parts.specs.declared.state.State.{State}
use Rattle.sv_right.proofs.Steps.{After, cons_after, more_after, Grows, grows_same, grows_on}

-- what is there, or else another thing
abbrev unwrapped : {A : Type 0} → A → Option A → A
unwrapped y None = y
unwrapped y (Some x) = x

pub some_same : {A : Type 0} {x y : A} → ◌≡◌ {A = Option A} (Some x) (Some y) → x ≡ y
some_same {x = x} e = ap (unwrapped x) e

-- something holds of each item and its number, from one with a number on
abbrev pub Along : {A : Type 0} → (A → ℕ → Type 0) → ℕ → List A → Type 0
Along Q i [] = Unit {0}
Along Q i (x ∷ xs) = Q x i × Along Q (suc i) xs

pub along_mono : {A : Type 0} (Q R : A → ℕ → Type 0) → ((x : A) (i : ℕ) → Q x i → R x i) → (i : ℕ) (xs : List A) → Along Q i xs → Along R i xs
along_mono Q R f i [] h = tt
along_mono Q R f i (x ∷ xs) h = (f x i h.0, along_mono Q R f (suc i) xs h.1)

pub along_both : {A : Type 0} (Q R S : A → ℕ → Type 0) → ((x : A) (i : ℕ) → Q x i → R x i → S x i) → (i : ℕ) (xs : List A) → Along Q i xs → Along R i xs → Along S i xs
along_both Q R S f i [] h k = tt
along_both Q R S f i (x ∷ xs) h k = (f x i h.0 k.0, along_both Q R S f (suc i) xs h.1 k.1)

pub along_shift : {A : Type 0} (Q : A → ℕ → Type 0) (i : ℕ) (xs : List A) → Along (λ x j. Q x (suc j)) i xs → Along Q (suc i) xs
along_shift Q i [] h = tt
along_shift Q i (x ∷ xs) h = (h.0, along_shift Q (suc i) xs h.1)

pub along_unshift : {A : Type 0} (Q : A → ℕ → Type 0) (i : ℕ) (xs : List A) → Along Q (suc i) xs → Along (λ x j. Q x (suc j)) i xs
along_unshift Q i [] h = tt
along_unshift Q i (x ∷ xs) h = (h.0, along_unshift Q (suc i) xs h.1)

pub along_of : {A : Type 0} (Q : A → ℕ → Type 0) → ((x : A) (j : ℕ) → Q x j) → (i : ℕ) (xs : List A) → Along Q i xs
along_of Q f i [] = tt
along_of Q f i (x ∷ xs) = (f x i, along_of Q f (suc i) xs)

-- from each item at its number
pub along_get : {A : Type 0} (Q : A → ℕ → Type 0) (xs : List A) → ((i : ℕ) (x : A) → slice_get xs i ≡ Some x → Q x i) → Along Q 0 xs
along_get Q [] f = tt
along_get Q (x ∷ xs) f = (f 0 x refl, along_shift Q 0 xs (along_get (λ y j. Q y (suc j)) xs (λ i y e. f (suc i) y e)))

-- of what is made of items
pub along_map : {A B : Type 0} (Q : B → ℕ → Type 0) (f : A → B) (i : ℕ) (xs : List A) → Along (λ x j. Q (f x) j) i xs → Along Q i (map f xs)
along_map Q f i [] h = tt
along_map Q f i (x ∷ xs) h = (h.0, along_map Q f (suc i) xs h.1)

-- of the item at a number
pub along_at : {A : Type 0} (Q : A → ℕ → Type 0) (xs : List A) (j : ℕ) (x : A) → Along Q 0 xs → slice_get xs j ≡ Some x → Q x j
along_at Q [] j x h e = absurd (cc)
along_at Q (y ∷ xs) zero x h e = subst (λ z. Q z 0) (some_same e) h.0
along_at Q (y ∷ xs) (suc j) x h e = along_at (λ z i. Q z (suc i)) xs j x (along_unshift Q 0 xs h.1) e

-- an item stands at its number
pub each_there : {A : Type 0} (xs : List A) → Along (λ x i. slice_get xs i ≡ Some x) 0 xs
each_there [] = tt
each_there (x ∷ xs) = (refl, along_shift (λ y i. slice_get (x ∷ xs) i ≡ Some y) 0 xs (each_there xs))

-- something holds between each item, with its number, and the one at its place of another list that is as long
abbrev pub Matched : {A B : Type 0} → (A → ℕ → B → Type 0) → ℕ → List A → List B → Type 0
Matched R i [] [] = Unit {0}
Matched R i [] (y ∷ ys) = ⊥
Matched R i (x ∷ xs) [] = ⊥
Matched R i (x ∷ xs) (y ∷ ys) = R x i y × Matched R (suc i) xs ys

pub matched_mono : {A B : Type 0} (R S : A → ℕ → B → Type 0) → ((x : A) (i : ℕ) (y : B) → R x i y → S x i y) → (i : ℕ) (xs : List A) (ys : List B) → Matched R i xs ys → Matched S i xs ys
matched_mono R S f i [] [] h = tt
matched_mono R S f i [] (y ∷ ys) h = h
matched_mono R S f i (x ∷ xs) [] h = h
matched_mono R S f i (x ∷ xs) (y ∷ ys) h = (f x i y h.0, matched_mono R S f (suc i) xs ys h.1)

pub matched_map : {A B : Type 0} (f : A → B) (i : ℕ) (xs : List A) (ys : List B) → Matched (λ x j y. y ≡ f x) i xs ys → ys ≡ map f xs
matched_map f i [] [] h = refl
matched_map f i [] (y ∷ ys) h = absurd h
matched_map f i (x ∷ xs) [] h = absurd h
matched_map {B = B} f i (x ∷ xs) (y ∷ ys) h = ap₂ (λ (z : B) zs. z ∷ zs) h.0 (matched_map f (suc i) xs ys h.1)

-- what holds of each item, whatever stands at its place
pub matched_each : {A B : Type 0} (Q : A → Type 0) (i : ℕ) (xs : List A) (ys : List B) → Matched (λ x j y. Q x) i xs ys → Each Q xs
matched_each Q i [] [] h = tt
matched_each Q i [] (y ∷ ys) h = tt
matched_each Q i (x ∷ xs) [] h = absurd h
matched_each Q i (x ∷ xs) (y ∷ ys) h = (h.0, matched_each Q (suc i) xs ys h.1)

pub matched_length : {A B : Type 0} (R : A → ℕ → B → Type 0) (i : ℕ) (xs : List A) (ys : List B) → Matched R i xs ys → length ys ≡ length xs
matched_length R i [] [] h = refl
matched_length R i [] (y ∷ ys) h = absurd h
matched_length R i (x ∷ xs) [] h = absurd h
matched_length R i (x ∷ xs) (y ∷ ys) h = ap suc (matched_length R (suc i) xs ys h.1)

-- what holds with an item that is there, holds with the one at its number
pub matched_at : {A B : Type 0} (Q : A → Option B → Type 0) (k : ℕ) (xs : List A) (ys : List B) → Matched (λ x j y. Q x (Some y)) k xs ys → Along (λ x j. Q x (slice_get ys j)) 0 xs
matched_at Q k [] ys h = tt
matched_at Q k (x ∷ xs) [] h = absurd h
matched_at Q k (x ∷ xs) (y ∷ ys) h = (h.0, along_shift (λ z j. Q z (slice_get (y ∷ ys) j)) 0 xs (matched_at Q (suc k) xs ys h.1))

-- what two functions make of them is the same
pub matched_same : {A B C : Type 0} (f : A → C) (g : B → C) (k : ℕ) (xs : List A) (ys : List B) → Matched (λ x j y. g y ≡ f x) k xs ys → map g ys ≡ map f xs
matched_same f g k [] [] h = refl
matched_same f g k [] (y ∷ ys) h = absurd h
matched_same f g k (x ∷ xs) [] h = absurd h
matched_same {C = C} f g k (x ∷ xs) (y ∷ ys) h = ap₂ (λ (z : C) zs. z ∷ zs) h.0 (matched_same f g (suc k) xs ys h.1)

-- what a function makes of an item stands at its number
pub map_get : {A B : Type 0} (f : A → B) (xs : List A) → Along (λ x i. slice_get (map f xs) i ≡ Some (f x)) 0 xs
map_get f [] = tt
map_get f (x ∷ xs) = (refl, along_shift (λ y i. slice_get (map f (x ∷ xs)) i ≡ Some (f y)) 0 xs (map_get f xs))

-- ---- steps

-- facts that stay as numbers are given
abbrev pub Mono : (ℕ → Type 0) → Type 0
Mono W = (k k' : ℕ) → k ≤ k' → W k → W k'

along_more : {A : Type 0} (W : ℕ → A → ℕ → Type 0) → ((x : A) (i : ℕ) → Mono (λ k. W k x i)) → (k k' : ℕ) → k ≤ k' → (i : ℕ) (xs : List A) → Along (W k) i xs → Along (W k') i xs
along_more W up k k' le i xs h = along_mono (W k) (W k') (λ x j q. up x j k k' le q) i xs h

-- each step does what it does on its own, and no number is given twice
pub each_after : {A B : Type 0} (g : A → ℕ → Run B) (W : ℕ → A → ℕ → Type 0) (R : ℕ → A → ℕ → B → Type 0) → ((x : A) (i : ℕ) → Mono (λ k. W k x i)) →
    ((x : A) (i : ℕ) (y : B) → Mono (λ k. R k x i y)) →
    ((x : A) (i : ℕ) (s : State) → W s.counters.next x i → After (g x i s) (λ y u. R u.counters.next x i y × Grows s u)) → (i : ℕ) (xs : List A) (s : State) → Along (W s.counters.next) i xs →
    After (each (λ x j u. one (g x j u)) i xs s) (λ ys u. Matched (R u.counters.next) i xs ys × Grows s u)
each_after g W R up later step i [] s h = (tt, grows_same s)
each_after g W R up later step i (x ∷ xs) s h =
    cons_after (g x i s) (λ v. each (λ x j u. one (g x j u)) (suc i) xs v) (λ y u. R u.counters.next x i y × Grows s u) (λ ys u. Matched (R u.counters.next) i (x ∷ xs) ys × Grows s u) (step x i s h.0)
    (λ y v q. more_after (each (λ x j u. one (g x j u)) (suc i) xs v) (λ zs u. Matched (R u.counters.next) (suc i) xs zs × Grows v u) (λ zs u. Matched (R u.counters.next) i (x ∷ xs) (y ∷ zs) × Grows s u)
    (each_after g W R up later step (suc i) xs v (along_more W up s.counters.next v.counters.next q.1 (suc i) xs h.1))
    (λ zs u r. ((later x i y v.counters.next u.counters.next r.1 q.0, r.0), grows_on s v u q.1 r.1)))

-- where facts speak of no numbers
pub plain_after : {A B : Type 0} (g : A → ℕ → Run B) (W : A → ℕ → Type 0) (R : A → ℕ → B → Type 0) →
    ((x : A) (i : ℕ) (s : State) → W x i → After (g x i s) (λ y u. R x i y × Grows s u)) → (i : ℕ) (xs : List A) (s : State) → Along W i xs →
    After (each (λ x j u. one (g x j u)) i xs s) (λ ys u. Matched R i xs ys × Grows s u)
plain_after g W R step i xs s h = each_after g (λ k. W) (λ k. R) (λ x j k k' le q. q) (λ x j y k k' le q. q) step i xs s h
