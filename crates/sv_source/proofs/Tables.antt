-- What is made of a part of a script in two ways, where two tables of functions grow side by side: combinators for the words by which it is made.
use Rattle.std.proofs.Common.{◌≡◌, ℕ, zero, suc, List, [], ◌∷◌, ◌++◌, length, map, Option, Some, None, option_map, slice_get, refl, ap}

-- a fact of the things of two lists at the same places, and of what may be absent
abbrev pub Beside : {A B : Type 0} → (A → B → Type 0) → List A → List B → Type 0
Beside R [] [] = Unit {0}
Beside R (x ∷ xs) (y ∷ ys) = R x y × Beside R xs ys
Beside R _ _ = ⊥

abbrev pub Perhaps : {A B : Type 0} → (A → B → Type 0) → Option A → Option B → Type 0
Perhaps R None None = Unit {0}
Perhaps R (Some x) (Some y) = R x y
Perhaps R _ _ = ⊥

pub beside_more : {A B : Type 0} (R : A → B → Type 0) (xs : List A) (ys : List B) (x : A) (y : B) → Beside R xs ys → R x y → Beside R (xs ++ x ∷ []) (ys ++ y ∷ [])
beside_more R [] [] x y h k = (k, tt)
beside_more R (a ∷ xs) (b ∷ ys) x y h k = (h.0, beside_more R xs ys x y h.1 k)
beside_more R [] (b ∷ ys) x y h k = absurd h
beside_more R (a ∷ xs) [] x y h k = absurd h

pub beside_length : {A B : Type 0} (R : A → B → Type 0) (xs : List A) (ys : List B) → Beside R xs ys → length xs ≡ length ys
beside_length R [] [] h = refl
beside_length R (a ∷ xs) (b ∷ ys) h = ap suc (beside_length R xs ys h.1)
beside_length R [] (b ∷ ys) h = absurd h
beside_length R (a ∷ xs) [] h = absurd h

pub beside_get : {A B : Type 0} (R : A → B → Type 0) (xs : List A) (ys : List B) (n : ℕ) → Beside R xs ys → Perhaps R (slice_get xs n) (slice_get ys n)
beside_get R [] [] n h = tt
beside_get R (a ∷ xs) (b ∷ ys) zero h = h.0
beside_get R (a ∷ xs) (b ∷ ys) (suc n) h = beside_get R xs ys n h.1
beside_get R [] (b ∷ ys) n h = absurd h
beside_get R (a ∷ xs) [] n h = absurd h

-- what is made of the things of both
pub beside_map : {A B C D : Type 0} (R : A → B → Type 0) (Q : C → D → Type 0) (f : A → C) (h : B → D) → ((a : A) (b : B) → R a b → Q (f a) (h b)) → (xs : List A) (ys : List B) → Beside R xs ys → Beside Q (map f xs) (map h ys)
beside_map R Q f h k [] [] r = tt
beside_map R Q f h k (x ∷ xs) (y ∷ ys) r = (k x y r.0, beside_map R Q f h k xs ys r.1)
beside_map R Q f h k [] (y ∷ ys) r = absurd r
beside_map R Q f h k (x ∷ xs) [] r = absurd r

pub perhaps_map : {A B C D : Type 0} (R : A → B → Type 0) (Q : C → D → Type 0) (f : A → C) (h : B → D) → ((a : A) (b : B) → R a b → Q (f a) (h b)) → (x : Option A) (y : Option B) → Perhaps R x y → Perhaps Q (option_map f x) (option_map h y)
perhaps_map R Q f h k None None r = tt
perhaps_map R Q f h k (Some x) (Some y) r = k x y r
perhaps_map R Q f h k None (Some y) r = absurd r
perhaps_map R Q f h k (Some x) None r = absurd r

-- ---- tables

-- what stands in a list stands in a longer one
pub get_more : {A : Type 0} (xs : List A) (y x : A) (n : ℕ) → slice_get xs n ≡ Some x → slice_get (xs ++ y ∷ []) n ≡ Some x
get_more [] y x n e = absurd (cc)
get_more (a ∷ xs) y x zero e = e
get_more (a ∷ xs) y x (suc n) e = get_more xs y x n e

pub get_last : {A : Type 0} (xs : List A) (y : A) → slice_get (xs ++ y ∷ []) (length xs) ≡ Some y
get_last [] y = refl
get_last (a ∷ xs) y = get_last xs y

module _ {S T : Type 0} (Front : S → Type 0) (AreAlike : S → T → Type 0) where
  -- what is made behind two tables that are alike is alike, and so are the tables then, where the first is a front of what it will be in the end; and
  -- then it was one before
  pub record Agree {A B : Type 0} (R : A → B → Type 0) (one : S → A × S) (two : T → B × T) : Type 0 where
    pub grows : (s : S) → Front (one s).1 → Front s
    pub both : (s : S) (t : T) → Front (one s).1 → AreAlike s t → AreAlike (one s).1 (two t).1 × R (one s).0 (two t).0

  pub just_agree : {A B : Type 0} (R : A → B → Type 0) (a : A) (b : B) → R a b → Agree R (λ s. (a, s)) (λ t. (b, t))
  just_agree R a b r = record { grows = λ s h. h; both = λ s t h k. (k, r) }

  pub one_agree : {A B C D : Type 0} (R : A → B → Type 0) (Q : C → D → Type 0) (f : A → C) (h : B → D) (one : S → A × S) (two : T → B × T) → ((a : A) (b : B) → R a b → Q (f a) (h b)) → Agree R one two
      → Agree Q (λ s. (f (one s).0, (one s).1)) (λ t. (h (two t).0, (two t).1))
  one_agree R Q f h one two k r = record { grows = r.grows; both = λ s t front alike. let made : AreAlike (one s).1 (two t).1 × R (one s).0 (two t).0 = r.both s t front alike in (made.0, k (one s).0 (two t).0 made.1) }

  pub two_agree : {A B C D E F : Type 0} (R : A → B → Type 0) (R' : C → D → Type 0) (Q : E → F → Type 0) (f : A → C → E) (h : B → D → F) (one : S → A × S) (two : T → B × T) (one' : S → C × S) (two' : T → D × T)
      → ((a : A) (b : B) (c : C) (d : D) → R a b → R' c d → Q (f a c) (h b d)) → Agree R one two → Agree R' one' two'
      → Agree Q (λ s. (f (one s).0 (one' (one s).1).0, (one' (one s).1).1)) (λ t. (h (two t).0 (two' (two t).1).0, (two' (two t).1).1))
  two_agree R R' Q f h one two one' two' k r r' = record {
    grows = λ s front. r.grows s (r'.grows (one s).1 front);
    both = λ s t front alike.
        let first : AreAlike (one s).1 (two t).1 × R (one s).0 (two t).0 = r.both s t (r'.grows (one s).1 front) alike in
        let next : AreAlike (one' (one s).1).1 (two' (two t).1).1 × R' (one' (one s).1).0 (two' (two t).1).0 = r'.both (one s).1 (two t).1 front first.0 in
        (next.0, k (one s).0 (two t).0 (one' (one s).1).0 (two' (two t).1).0 first.1 next.1);
  }

  pub three_agree : {A B C D E F G H : Type 0} (R : A → B → Type 0) (R' : C → D → Type 0) (R'' : E → F → Type 0) (Q : G → H → Type 0) (f : A → C → E → G) (h : B → D → F → H) (one : S → A × S) (two : T → B × T) (one' : S → C × S) (two' : T → D × T) (one'' : S → E × S) (two'' : T → F × T)
      → ((a : A) (b : B) (c : C) (d : D) (e : E) (i : F) → R a b → R' c d → R'' e i → Q (f a c e) (h b d i)) → Agree R one two → Agree R' one' two' → Agree R'' one'' two''
      → Agree Q (λ s. (f (one s).0 (one' (one s).1).0 (one'' (one' (one s).1).1).0, (one'' (one' (one s).1).1).1)) (λ t. (h (two t).0 (two' (two t).1).0 (two'' (two' (two t).1).1).0, (two'' (two' (two t).1).1).1))
  three_agree R R' R'' Q f h one two one' two' one'' two'' k r r' r'' = record {
    grows = λ s front. r.grows s (r'.grows (one s).1 (r''.grows (one' (one s).1).1 front));
    both = λ s t front alike.
        let back' : Front (one' (one s).1).1 = r''.grows (one' (one s).1).1 front in
        let first : AreAlike (one s).1 (two t).1 × R (one s).0 (two t).0 = r.both s t (r'.grows (one s).1 back') alike in
        let next : AreAlike (one' (one s).1).1 (two' (two t).1).1 × R' (one' (one s).1).0 (two' (two t).1).0 = r'.both (one s).1 (two t).1 back' first.0 in
        let last : AreAlike (one'' (one' (one s).1).1).1 (two'' (two' (two t).1).1).1 × R'' (one'' (one' (one s).1).1).0 (two'' (two' (two t).1).1).0 = r''.both (one' (one s).1).1 (two' (two t).1).1 front next.0 in
        (last.0, k (one s).0 (two t).0 (one' (one s).1).0 (two' (two t).1).0 (one'' (one' (one s).1).1).0 (two'' (two' (two t).1).1).0 first.1 next.1 last.1);
  }

  -- what is put behind what a part added
  pub followed_agree : {A B C D : Type 0} (R : A → B → Type 0) (Q : C → D → Type 0) (next : A → S → C × S) (next' : B → T → D × T) (one : S → A × S) (two : T → B × T)
      → ((a : A) (s : S) → Front (next a s).1 → Front s)
      → ((a : A) (b : B) (s : S) (t : T) → R a b → Front (next a s).1 → AreAlike s t → AreAlike (next a s).1 (next' b t).1 × Q (next a s).0 (next' b t).0) → Agree R one two
      → Agree Q (λ s. next (one s).0 (one s).1) (λ t. next' (two t).0 (two t).1)
  followed_agree R Q next next' one two grows k r = record {
    grows = λ s front. r.grows s (grows (one s).0 (one s).1 front);
    both = λ s t front alike.
        let first : AreAlike (one s).1 (two t).1 × R (one s).0 (two t).0 = r.both s t (grows (one s).0 (one s).1 front) alike in
        k (one s).0 (two t).0 (one s).1 (two t).1 first.1 front first.0;
  }

  pub four_agree : {A B C D E F G H I J : Type 0} (R : A → B → Type 0) (R' : C → D → Type 0) (R'' : E → F → Type 0) (L : G → H → Type 0) (Q : I → J → Type 0) (f : A → C → E → G → I) (h : B → D → F → H → J) (one : S → A × S) (two : T → B × T) (one' : S → C × S) (two' : T → D × T) (one'' : S → E × S) (two'' : T → F × T) (last : S → G × S) (last' : T → H × T)
      → ((a : A) (b : B) (c : C) (d : D) (e : E) (i : F) (g : G) (j : H) → R a b → R' c d → R'' e i → L g j → Q (f a c e g) (h b d i j)) → Agree R one two → Agree R' one' two' → Agree R'' one'' two'' → Agree L last last'
      → Agree Q (λ s. (f (one s).0 (one' (one s).1).0 (one'' (one' (one s).1).1).0 (last (one'' (one' (one s).1).1).1).0, (last (one'' (one' (one s).1).1).1).1))
      (λ t. (h (two t).0 (two' (two t).1).0 (two'' (two' (two t).1).1).0 (last' (two'' (two' (two t).1).1).1).0, (last' (two'' (two' (two t).1).1).1).1))
  four_agree R R' R'' L Q f h one two one' two' one'' two'' last last' k r r' r'' l = record {
    grows = λ s front. r.grows s (r'.grows (one s).1 (r''.grows (one' (one s).1).1 (l.grows (one'' (one' (one s).1).1).1 front)));
    both = λ s t front alike.
        let s' : S = (one s).1 in
        let t' : T = (two t).1 in
        let s'' : S = (one' s').1 in
        let t'' : T = (two' t').1 in
        let u : S = (one'' s'').1 in
        let v : T = (two'' t'').1 in
        let back' : Front u = l.grows u front in
        let back'' : Front s'' = r''.grows s'' back' in
        let first : AreAlike s' t' × R (one s).0 (two t).0 = r.both s t (r'.grows s' back'') alike in
        let second : AreAlike s'' t'' × R' (one' s').0 (two' t').0 = r'.both s' t' back'' first.0 in
        let third : AreAlike u v × R'' (one'' s'').0 (two'' t'').0 = r''.both s'' t'' back' second.0 in
        let fourth : AreAlike (last u).1 (last' v).1 × L (last u).0 (last' v).0 = l.both u v front third.0 in
        (fourth.0, k (one s).0 (two t).0 (one' s').0 (two' t').0 (one'' s'').0 (two'' t'').0 (last u).0 (last' v).0 first.1 second.1 third.1 fourth.1);
  }
