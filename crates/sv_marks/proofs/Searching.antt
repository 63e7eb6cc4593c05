-- Who is found in lists of numbers and below a number.
use Rattle.std.proofs.Common.{◌≡◌, ◌⊎◌, ⊎_elim, inl, inr, ℕ, zero, suc, ◌<◌, ◌≤◌, Bool, true, false, nat_eq, List, [], ◌∷◌, refl, ap, ◌∙◌, arith}
use Rattle.std.proofs.lemmas.Bool.{cases_eq, eq-eqb}
use Rattle.sv_places.specs.Numbers.{count}
use Rattle.sv_tokens.specs.Counting.{one, times}

-- a number that stands in a list and passes
pub record Found (f : ℕ → Bool) (list : List ℕ) : Type 0 where
  pub number : ℕ
  pub stands : 1 ≤ count number list
  pub passes : f number ≡ true

-- what comes first counts
first_counts : (x : ℕ) (xs : List ℕ) → 1 ≤ count x (x ∷ xs)
first_counts x xs = let e = ap one (eq-eqb x x refl) in omega (arith, e)

-- no number of a list passes, or one is found
pub found_in : (f : ℕ → Bool) (list : List ℕ) → (times f list ≡ 0) ⊎ Found f list
found_in f [] = inl refl
found_in f (x ∷ xs) = by (f x) refl (found_in f xs)
  where
    by : (b : Bool) → f x ≡ b → (times f xs ≡ 0) ⊎ Found f xs → (times f (x ∷ xs) ≡ 0) ⊎ Found f (x ∷ xs)
    by true e more = inr (record { number = x; stands = first_counts x xs; passes = e })
    by false e (inl none) = inl (let a = ap one e in omega (arith, a, none))
    by false e (inr there) = inr (record { number = there.number; stands = let a = there.stands in omega (arith, a); passes = there.passes })

-- where one number of a list alone passes, as many pass as it stands there
pub alone_in : (f : ℕ → Bool) (a : ℕ) (list : List ℕ) → ((b : ℕ) → 1 ≤ count b list → f b ≡ true → a ≡ b) → times f list ≤ count a list
alone_in f a [] h = omega arith
alone_in f a (x ∷ xs) h =
    let rest = alone_in f a xs (λ b le passes. h b (omega (arith, le)) passes) in
    let first = by (f x) refl in
    omega (arith, rest, first)
  where
    by : (b : Bool) → f x ≡ b → one (f x) ≤ one (nat_eq a x)
    by true e = let p = ap one e in let q = ap one (eq-eqb a x (h x (first_counts x xs) e)) in omega (arith, p, q)
    by false e = let p = ap one e in omega (arith, p)

-- a number for which something counts
pub record Counted (f : ℕ → ℕ) : Type 0 where
  pub number : ℕ
  pub counts : 1 ≤ f number

-- one is found, or below a number nothing counts
pub counted_below : (f : ℕ → ℕ) (bound : ℕ) → Counted f ⊎ ((n : ℕ) → n < bound → f n ≡ 0)
counted_below f zero = inr (λ n lt. absurd (omega (arith, lt)))
counted_below f (suc bound) = by (counted_below f bound) (f bound) refl
  where
    by : Counted f ⊎ ((n : ℕ) → n < bound → f n ≡ 0) → (m : ℕ) → f bound ≡ m → Counted f ⊎ ((n : ℕ) → n < suc bound → f n ≡ 0)
    by (inl there) m e = inl there
    by (inr none) zero e = inr (λ n lt. ⊎_elim (λ same. ap f same ∙ e) (λ other. none n (omega (arith, lt, other))) (cases_eq n bound))
    by (inr none) (suc m) e = inl (record { number = bound; counts = omega (arith, e) })
