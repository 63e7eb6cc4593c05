-- How often something stands in a list that is split.
use Rattle.std.proofs.Common.{◌≡◌, ◌≤◌, ◌+◌, List, [], ◌∷◌, ◌++◌, Bool, true, false, refl, ap, arith}
use Rattle.sv_tokens.specs.Counting.{one, times, Has, leads}

pub one-most : (b : Bool) → one b ≤ 1
one-most true = omega arith
one-most false = omega arith

pub times-append : {A : Type 0} (p : A → Bool) (xs ys : List A) → times p (xs ++ ys) ≡ times p xs + times p ys
times-append p [] ys = omega arith
times-append p (x ∷ xs) ys = let rest = times-append p xs ys in omega (arith, rest)

pub has-left : {A : Type 0} (p : A → Bool) (xs ys : List A) → Has p xs → Has p (xs ++ ys)
has-left p xs ys has = let all = times-append p xs ys in omega (arith, all, has)

pub has-right : {A : Type 0} (p : A → Bool) (xs ys : List A) → Has p ys → Has p (xs ++ ys)
has-right p xs ys has = let all = times-append p xs ys in omega (arith, all, has)

pub has-here : {A : Type 0} (p : A → Bool) (x : A) (xs : List A) → p x ≡ true → Has p (x ∷ xs)
has-here p x xs e = let w : one (p x) ≡ 1 = ap one e in omega (arith, w)

pub leads-has : {A : Type 0} (p : A → Bool) (xs : List A) → leads p xs ≡ true → Has p xs
leads-has p [] e = absurd (no e)
  where
    no : false ≡ true → ⊥
    no e = cc
leads-has p (x ∷ xs) e = has-here p x xs e

-- a test that passes only where another does
pub times-narrow : {A : Type 0} (p q : A → Bool) → ((x : A) → one (q x) ≤ one (p x)) → (xs : List A) → times q xs ≤ times p xs
times-narrow p q narrows [] = omega arith
times-narrow p q narrows (x ∷ xs) = let here = narrows x in let rest = times-narrow p q narrows xs in omega (arith, here, rest)

-- where none passes, the first does not
pub none-first : {A : Type 0} (p : A → Bool) (x : A) (xs : List A) → times p (x ∷ xs) ≡ 0 → p x ≡ false
none-first p x xs none = go (p x) refl
  where
    go : (v : Bool) → p x ≡ v → p x ≡ false
    go false e = e
    go true e = let w : one (p x) ≡ 1 = ap one e in absurd (omega (arith, w, none))

-- before the only one that passes, none does
pub none-before : {A : Type 0} (p : A → Bool) (xs ys : List A) → times p (xs ++ ys) ≤ 1 → leads p ys ≡ true → times p xs ≡ 0
none-before p xs ys once e = let all = times-append p xs ys in let here = leads-has p ys e in omega (arith, all, here, once)
