-- How often numbers stand in joined lists, and which numbers lie between two others.
use Rattle.std.proofs.Common.{◌≡◌, ℕ, ◌+◌, ◌<◌, ◌≤◌, Bool, true, false, ◌&&◌, nat_eq, nat_le, nat_lt, List, [], ◌∷◌, ◌++◌, map, refl, sym, ap, ◌∙◌, append_assoc, arith}
use Rattle.std.proofs.lemmas.Bool.{ltb-true, ltb-false, leb-true, leb-false, eqb-true, eqb-false}
use Rattle.sv_parts.specs.declared.state.Effect.TheVariants as effect
use Rattle.sv_parts.specs.declared.state.Kept.{Kept}
use Rattle.sv_places.specs.Keeping.{created_at, set_at, destroyed_at, kept_at}
use Rattle.sv_places.specs.Numbers.{count, given}
use Rattle.sv_shapes.specs.Places.{joined}
use Rattle.sv_tokens.proofs.Counting.{times-append}
use Rattle.sv_tokens.specs.Counting.{one}

-- ---- joined lists

pub joined-append : (xs ys : List (List ℕ)) → joined (xs ++ ys) ≡ joined xs ++ joined ys
joined-append [] ys = refl
joined-append (x ∷ xs) ys = ap (λ z. x ++ z) (joined-append xs ys) ∙ sym (append_assoc x (joined xs) (joined ys))

pub joined-map : {A : Type 0} (f : A → List ℕ) (xs ys : List A) → joined (map f (xs ++ ys)) ≡ joined (map f xs) ++ joined (map f ys)
joined-map f [] ys = refl
joined-map f (x ∷ xs) ys = ap (λ z. f x ++ z) (joined-map f xs ys) ∙ sym (append_assoc (f x) (joined (map f xs)) (joined (map f ys)))

pub count-append : (n : ℕ) (xs ys : List ℕ) → count n (xs ++ ys) ≡ count n xs + count n ys
count-append n xs ys = times-append (nat_eq n) xs ys

pub count-joined : {A : Type 0} (n : ℕ) (f : A → List ℕ) (xs ys : List A) → count n (joined (map f (xs ++ ys))) ≡ count n (joined (map f xs)) + count n (joined (map f ys))
count-joined n f xs ys = ap (count n) (joined-map f xs ys) ∙ count-append n (joined (map f xs)) (joined (map f ys))

pub count-kept : (n : ℕ) (xs ys : List Kept) → count n (kept_at (xs ++ ys)) ≡ count n (kept_at xs) + count n (kept_at ys)
count-kept n [] ys = omega arith
count-kept n (x ∷ xs) ys = let rest = count-kept n xs ys in omega (arith, rest)

-- ---- children that go

pub destroyed-all : (places : List ℕ) → destroyed_at (map effect.Destroy places) ≡ places
destroyed-all [] = refl
destroyed-all (p ∷ places) = ap (λ z. p ∷ z) (destroyed-all places)

pub none-created : (places : List ℕ) → created_at (map effect.Destroy places) ≡ []
none-created [] = refl
none-created (p ∷ places) = none-created places

pub none-set : (places : List ℕ) → set_at (map effect.Destroy places) ≡ []
none-set [] = refl
none-set (p ∷ places) = none-set places

-- ---- numbers below others

abbrev pub below : ℕ → ℕ → ℕ
below n next = one (nat_lt n next)

below-true : (n k : ℕ) → n < k → below n k ≡ 1
below-true n k lt = go (nat_lt n k) refl
  where
    go : (b : Bool) → nat_lt n k ≡ b → one b ≡ 1
    go true e = refl
    go false e = absurd (omega (arith, ltb-false n k e, lt))

below-false : (n k : ℕ) → k ≤ n → below n k ≡ 0
below-false n k le = go (nat_lt n k) refl
  where
    go : (b : Bool) → nat_lt n k ≡ b → one b ≡ 0
    go true e = absurd (omega (arith, ltb-true n k e, le))
    go false e = refl

-- one more number lies below the next one
pub below-more : (n k : ℕ) → below n (k + 1) ≡ below n k + one (nat_eq n k)
below-more n k = go (nat_lt n k) refl (nat_eq n k) refl
  where
    go : (b : Bool) → nat_lt n k ≡ b → (c : Bool) → nat_eq n k ≡ c → below n (k + 1) ≡ one b + one c
    go true e true f = absurd (omega (arith, ltb-true n k e, eqb-true n k f))
    go true e false f = below-true n (k + 1) (omega (arith, ltb-true n k e))
    go false e true f = below-true n (k + 1) (omega (arith, eqb-true n k f))
    go false e false f = below-false n (k + 1) (above (nat_lt k n) refl)
      where
        above : (d : Bool) → nat_lt k n ≡ d → k + 1 ≤ n
        above true g = omega (arith, ltb-true k n g)
        above false g = absurd (eqb-false n k f (omega (arith, ltb-false k n g, ltb-false n k e)))

-- what is given lies between
pub given-between : (from to n : ℕ) → from ≤ to → below n from + given from to n ≡ below n to
given-between from to n le = go (nat_lt n from) refl (nat_le from n) refl (nat_lt n to) refl
  where
    go : (b : Bool) → nat_lt n from ≡ b → (c : Bool) → nat_le from n ≡ c → (d : Bool) → nat_lt n to ≡ d → one b + one (c && d) ≡ one d
    go true e true f d g = absurd (omega (arith, ltb-true n from e, leb-true from n f))
    go true e false f true g = refl
    go true e false f false g = absurd (omega (arith, ltb-true n from e, ltb-false n to g, le))
    go false e true f d g = omega arith
    go false e false f d g = absurd (omega (arith, ltb-false n from e, leb-false from n f))

pub given-below : (n next : ℕ) → given 0 next n ≡ below n next
given-below n next = omega (arith, given-between 0 next n (omega arith), below-false n 0 (omega arith))
