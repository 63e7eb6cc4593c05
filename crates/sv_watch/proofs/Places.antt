-- The first in a list that passes, and what lies round it.
use Rattle.std.proofs.Common.{◌≡◌, ◌≤◌, ◌<◌, ◌+◌, ℕ, List, [], ◌∷◌, ◌++◌, length, Bool, true, false, refl, ap, sym, ◌∙◌, arith}
use Rattle.std.specs.Prelude.{if◌then◌else◌, not, ◌||◌}
use Rattle.std.specs.List.{list_any, position_or_len}
use Rattle.sv_tokens.specs.Counting.{one, times}
use Rattle.sv_tokens.proofs.Counting.{none-first}

-- the list is split before the first that passes
pub record Found {A : Type 0} (p : A → Bool) (xs : List A) (n : ℕ) : Type 0 where
  pub front : List A
  pub item : A
  pub back : List A
  pub was : xs ≡ front ++ item ∷ back
  pub here : length front ≡ n
  pub none : times p front ≡ 0
  pub passes : p item ≡ true

pub place-first : {A : Type 0} (p : A → Bool) (x : A) (xs : List A) → p x ≡ true → position_or_len p (x ∷ xs) ≡ 0
place-first p x xs e = ap (λ z. if not z then 1 + position_or_len p xs else 0) e

pub place-later : {A : Type 0} (p : A → Bool) (x : A) (xs : List A) → p x ≡ false → position_or_len p (x ∷ xs) ≡ 1 + position_or_len p xs
place-later p x xs e = ap (λ z. if not z then 1 + position_or_len p xs else 0) e

pub found : {A : Type 0} (p : A → Bool) (xs : List A) → position_or_len p xs < length xs → Found p xs (position_or_len p xs)
found p [] less = absurd (omega (arith, less))
found p (x ∷ xs) less = go (found p xs) (p x) refl
  where
    go : (position_or_len p xs < length xs → Found p xs (position_or_len p xs)) → (b : Bool) → p x ≡ b → Found p (x ∷ xs) (position_or_len p (x ∷ xs))
    go ih true e = record { front = []; item = x; back = xs; was = refl; here = sym (place-first p x xs e); none = refl; passes = e }
    go ih false e =
        let next = place-later p x xs e in
        let rest = ih (omega (arith, less, next)) in
        let here = rest.here in
        let none = rest.none in
        let w : one (p x) ≡ 0 = ap one e in
        record {
          front = x ∷ rest.front;
          item = rest.item;
          back = rest.back;
          was = ap (λ z. x ∷ z) rest.was;
          here = omega (arith, here, next);
          none = omega (arith, none, w);
          passes = rest.passes;
        }

pub not-found : {A : Type 0} (p : A → Bool) (xs : List A) → length xs ≤ position_or_len p xs → times p xs ≡ 0
not-found p [] past = refl
not-found p (x ∷ xs) past = go (not-found p xs) (p x) refl
  where
    go : (length xs ≤ position_or_len p xs → times p xs ≡ 0) → (b : Bool) → p x ≡ b → times p (x ∷ xs) ≡ 0
    go ih true e = let first = place-first p x xs e in absurd (omega (arith, past, first))
    go ih false e =
        let next = place-later p x xs e in
        let rest = ih (omega (arith, past, next)) in
        let w : one (p x) ≡ 0 = ap one e in
        omega (arith, rest, w)

pub any-none : {A : Type 0} (p : A → Bool) (xs : List A) → times p xs ≡ 0 → list_any p xs ≡ false
any-none p [] none = refl
any-none p (x ∷ xs) none = ap (λ z. z || list_any p xs) (none-first p x xs none) ∙ any-none p xs (omega (arith, none))

pub any-here : {A : Type 0} (p : A → Bool) (a b : List A) (t : A) → p t ≡ true → list_any p (a ++ t ∷ b) ≡ true
any-here p [] b t e = ap (λ z. z || list_any p b) e
any-here p (s ∷ a) b t e = go (p s) (any-here p a b t e)
  where
    go : (v : Bool) → list_any p (a ++ t ∷ b) ≡ true → (v || list_any p (a ++ t ∷ b)) ≡ true
    go true rest = refl
    go false rest = rest

pub place-bound : {A : Type 0} (p : A → Bool) (xs : List A) → position_or_len p xs ≤ length xs
place-bound p [] = omega arith
place-bound p (x ∷ xs) = go (place-bound p xs) (p x) refl
  where
    go : position_or_len p xs ≤ length xs → (b : Bool) → p x ≡ b → position_or_len p (x ∷ xs) ≤ length (x ∷ xs)
    go ih true e = let first = place-first p x xs e in omega (arith, first)
    go ih false e = let next = place-later p x xs e in omega (arith, ih, next)
