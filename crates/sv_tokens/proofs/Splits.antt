-- One that passes once splits a list in one way.
use Rattle.std.proofs.Common.{◌≡◌, ◌≤◌, List, [], ◌∷◌, ◌++◌, Bool, true, false, refl, ap, sym, ◌∙◌, arith, subst}
use Rattle.sv_tokens.specs.Counting.{one, times, Has, leads}
use Rattle.sv_tokens.proofs.Counting.{times-append, times-narrow, has-right, leads-has}

pub head : {A : Type 0} {x y : A} {xs ys : List A} → x ∷ xs ≡ y ∷ ys → x ≡ y
head e = cc

pub tail : {A : Type 0} {x y : A} {xs ys : List A} → x ∷ xs ≡ y ∷ ys → xs ≡ ys
tail e = cc

no : false ≡ true → ⊥
no e = cc

-- both splits are at the same place
pub record SameSplit {A : Type 0} (a b c d : List A) : Type 0 where
  pub front : a ≡ c
  pub back : b ≡ d

pub one_place : {A : Type 0} (p : A → Bool) (a b c d : List A) → times p (a ++ b) ≤ 1 → leads p b ≡ true → leads p d ≡ true → a ++ b ≡ c ++ d → SameSplit a b c d
one_place p [] b [] d once here there e = record { front = refl; back = e }
one_place p [] [] (s ∷ c) d once here there e = absurd (no here)
one_place p [] (x ∷ b) (s ∷ c) d once here there e =
    let w : one (p x) ≡ 1 = ap one here in
    let late = subst (λ z. 1 ≤ times p z) (sym (tail e)) (has-right p c d (leads-has p d there)) in
    absurd (omega (arith, w, late, once))
one_place p (t ∷ a) b [] [] once here there e = absurd (no there)
one_place p (t ∷ a) b [] (y ∷ d) once here there e =
    let w : one (p t) ≡ 1 = ap one (ap p (head e) ∙ there) in
    let late = has-right p a b (leads-has p b here) in
    absurd (omega (arith, w, late, once))
one_place p (t ∷ a) b (s ∷ c) d once here there e =
    let rest = one_place p a b c d (omega (arith, once)) here there (tail e) in
    record { front = ap (λ z. z ∷ a) (head e) ∙ ap (λ z. s ∷ z) rest.front; back = rest.back }

-- both splits are round the same one
pub record Same {A : Type 0} (a b c d : List A) (x y : A) : Type 0 where
  pub front : a ≡ c
  pub here : x ≡ y
  pub back : b ≡ d

pub unique : {A : Type 0} (p : A → Bool) (a b c d : List A) (x y : A) → times p (a ++ (x ∷ b)) ≤ 1 → p x ≡ true → p y ≡ true → a ++ (x ∷ b) ≡ c ++ (y ∷ d) → Same a b c d x y
unique p a b c d x y once px py e =
    let s = one_place p a (x ∷ b) c (y ∷ d) once px py e in
    record { front = s.front; here = head s.back; back = tail s.back }

-- a test that passes only where another does, which passes at one alone, passes there
pub only_here : {A : Type 0} (p q : A → Bool) (a b : List A) (x : A) → ((s : A) → one (q s) ≤ one (p s)) → times p (a ++ (x ∷ b)) ≤ 1 → p x ≡ true → Has q (a ++ (x ∷ b)) → q x ≡ true
only_here p q a b x less once px has = go (q x) refl
  where
    go : (v : Bool) → q x ≡ v → q x ≡ true
    go true e = e
    go false e =
        let ps = times-append p a (x ∷ b) in
        let qs = times-append q a (x ∷ b) in
        let w : one (p x) ≡ 1 = ap one px in
        let v : one (q x) ≡ 0 = ap one e in
        let left = times-narrow p q less a in
        let right = times-narrow p q less b in
        absurd (omega (arith, ps, qs, w, v, left, right, once, has))
