-- Which one is known by a number.
use Rattle.std.proofs.Common.{◌≡◌, ◌≢◌, ℕ, List, [], ◌∷◌, ◌++◌, Bool, true, false, Option, Some, None, refl, ap, sym, ◌∙◌, arith}
use Rattle.std.specs.Prelude.{if◌then◌else◌, is_some}
use Rattle.std.proofs.lemmas.Bool.{eq-eqb, ne_eqb}
use Rattle.sv_tokens.specs.Counting.{times, one}
use Rattle.sv_live.specs.declared.live.Live.{Live}
use Rattle.sv_live.specs.Known.{number, answers, or_else, known}

-- whether the first of them is known by the number
abbrev hit : ℕ → Live → Option Live
hit n l = if answers n l then Some l else None

pub hit-same : (n : ℕ) (l : Live) → number l ≡ n → hit n l ≡ Some l
hit-same n l e = ap (λ b. if b then Some l else None) (eq-eqb (number l) n e)

pub hit-other : (n : ℕ) (l : Live) → number l ≢ n → hit n l ≡ None
hit-other n l ne = ap (λ b. if b then Some l else None) (ne_eqb (number l) n ne)

or_else-none : (o : Option Live) → or_else o None ≡ o
or_else-none None = refl
or_else-none (Some l) = refl

or_else-assoc : (a b c : Option Live) → or_else (or_else a b) c ≡ or_else a (or_else b c)
or_else-assoc None b c = refl
or_else-assoc (Some l) b c = refl

pub known-append : (n : ℕ) (xs ys : List Live) → known n (xs ++ ys) ≡ or_else (known n ys) (known n xs)
known-append n [] ys = sym (or_else-none (known n ys))
known-append n (x ∷ xs) ys = ap (λ o. or_else o (hit n x)) (known-append n xs ys) ∙ or_else-assoc (known n ys) (known n xs) (hit n x)

-- one that is known by another number
pub known-other : (n : ℕ) (l : Live) (xs : List Live) → number l ≢ n → known n (l ∷ xs) ≡ known n xs
known-other n l xs ne = ap (λ o. or_else (known n xs) o) (hit-other n l ne) ∙ or_else-none (known n xs)

-- what is known behind it hides one
pub known-hidden : (n : ℕ) (xs ys : List Live) (l : Live) → is_some (known n ys) ≡ true → known n ((xs ++ l ∷ []) ++ ys) ≡ known n (xs ++ ys)
known-hidden n xs ys l some = known-append n (xs ++ l ∷ []) ys ∙ (go (known n ys) some ∙ sym (known-append n xs ys))
  where
    no : false ≡ true → ⊥
    no e = cc

    go : (o : Option Live) → is_some o ≡ true → or_else o (known n (xs ++ l ∷ [])) ≡ or_else o (known n xs)
    go None s = absurd (no s)
    go (Some m) s = refl

-- one that is known by another number, between others
pub known-without : (n : ℕ) (xs ys : List Live) (l : Live) → number l ≢ n → known n (xs ++ l ∷ ys) ≡ known n (xs ++ ys)
known-without n xs ys l ne = known-append n xs (l ∷ ys) ∙ (ap (λ o. or_else o (known n xs)) (known-other n l ys ne) ∙ sym (known-append n xs ys))

-- none is known by a number of none
pub known-none : (n : ℕ) (xs : List Live) → times (answers n) xs ≡ 0 → known n xs ≡ None
known-none n [] none = refl
known-none n (x ∷ xs) none = go (answers n x) refl (λ h. known-none n xs h)
  where
    go : (b : Bool) → answers n x ≡ b → (times (answers n) xs ≡ 0 → known n xs ≡ None) → known n (x ∷ xs) ≡ None
    go true e rest = let w = ap one e in absurd (omega (arith, w, none))
    go false e rest = (λ i. or_else (rest (let w = ap one e in omega (arith, w, none)) i) (if e i then Some x else None))
