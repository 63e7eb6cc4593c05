-- Lists that are left of others where some elements are left out, and what is told apart in them.
use Rattle.std.proofs.Common.{◌≡◌, ◌≢◌, List, [], ◌∷◌, ◌++◌, refl, sym, subst, ◌∙◌, inl, inr, ◌⊎◌, ⊎_elim}
use Rattle.sv_code.specs.Names.{Each}
use Rattle.sv_subscribed.specs.Holders.{IsAmong}

-- what is left of a list
abbrev pub IsThinned : {A : Type 0} → List A → List A → Type 0
IsThinned [] ys = Unit {0}
IsThinned (x ∷ xs) [] = ⊥
IsThinned (x ∷ xs) (y ∷ ys) = ((x ≡ y) × IsThinned xs ys) ⊎ IsThinned (x ∷ xs) ys

pub thinned-self : {A : Type 0} (xs : List A) → IsThinned xs xs
thinned-self [] = tt
thinned-self (x ∷ xs) = inl (refl, thinned-self xs)

-- what stands before it can be there too
pub thinned-behind : {A : Type 0} (front xs ys : List A) → IsThinned xs ys → IsThinned xs (front ++ ys)
thinned-behind [] xs ys h = h
thinned-behind (f ∷ front) [] ys h = tt
thinned-behind (f ∷ front) (x ∷ xs) ys h = inr (thinned-behind front (x ∷ xs) ys h)

pub thinned-append : {A : Type 0} (xs ys xs' ys' : List A) → IsThinned xs ys → IsThinned xs' ys' → IsThinned (xs ++ xs') (ys ++ ys')
thinned-append [] ys xs' ys' h k = thinned-behind ys xs' ys' k
thinned-append (x ∷ xs) [] xs' ys' h k = absurd h
thinned-append (x ∷ xs) (y ∷ ys) xs' ys' h k = ⊎_elim (λ same. inl (same.0, thinned-append xs ys xs' ys' same.1 k)) (λ later. inr (thinned-append (x ∷ xs) ys xs' ys' later k)) h

-- and what stands behind it
pub thinned-front : {A : Type 0} (xs ys back : List A) → IsThinned xs ys → IsThinned xs (ys ++ back)
thinned-front [] ys back h = tt
thinned-front (x ∷ xs) [] back h = absurd h
thinned-front (x ∷ xs) (y ∷ ys) back h = ⊎_elim (λ same. inl (same.0, thinned-front xs ys back same.1)) (λ later. inr (thinned-front (x ∷ xs) ys back later)) h

-- ---- what is so of each

pub each-thinned : {A : Type 0} (Q : A → Type 0) (xs ys : List A) → IsThinned xs ys → Each Q ys → Each Q xs
each-thinned Q [] ys h all = tt
each-thinned Q (x ∷ xs) [] h all = absurd h
each-thinned Q (x ∷ xs) (y ∷ ys) h all = ⊎_elim (λ same. (subst Q (sym same.0) all.0, each-thinned Q xs ys same.1 all.1)) (λ later. each-thinned Q (x ∷ xs) ys later all.1) h

pub each-among : {A : Type 0} (Q : A → Type 0) (xs : List A) (x : A) → Each Q xs → IsAmong x xs → Q x
each-among Q [] x all among = absurd among
each-among Q (y ∷ xs) x all among = ⊎_elim (λ is. subst Q is all.0) (λ later. each-among Q xs x all.1 later) among

pub each-all : {A : Type 0} (xs : List A) → Each (λ x. IsAmong x xs) xs
each-all [] = tt
each-all {A} (x ∷ xs) = (inl refl, more xs (each-all xs)) where
  more : (ys : List A) → Each (λ y. IsAmong y xs) ys → Each (λ y. IsAmong y (x ∷ xs)) ys
  more [] h = tt
  more (y ∷ ys) h = (inr h.0, more ys h.1)

-- ---- things that are told apart by something

abbrev pub AreToldApart : {A B : Type 0} → (A → B) → List A → Type 0
AreToldApart f [] = Unit {0}
AreToldApart f (x ∷ xs) = Each (λ y. f x ≢ f y) xs × AreToldApart f xs

pub apart-thinned : {A B : Type 0} (f : A → B) (xs ys : List A) → IsThinned xs ys → AreToldApart f ys → AreToldApart f xs
apart-thinned f [] ys h apart = tt
apart-thinned f (x ∷ xs) [] h apart = absurd h
apart-thinned {A} f (x ∷ xs) (y ∷ ys) h apart =
    ⊎_elim
    (λ same. (subst (λ (z : A). Each (λ w. f z ≢ f w) xs) (sym same.0) (each-thinned (λ w. f y ≢ f w) xs ys same.1 apart.0), apart-thinned f xs ys same.1 apart.1))
    (λ later. apart-thinned f (x ∷ xs) ys later apart.1) h

-- one of them is known by it
pub one-apart : {A B : Type 0} (f : A → B) (xs : List A) (x y : A) → AreToldApart f xs → IsAmong x xs → IsAmong y xs → f x ≡ f y → x ≡ y
one-apart f [] x y apart a b same = absurd a
one-apart {A} {B} f (z ∷ xs) x y apart a b same =
    ⊎_elim
    (λ e. ⊎_elim
    (λ e'. sym e ∙ e')
    (λ l. absurd (subst (λ (v : A). f v ≢ f y) e (each-among (λ w. f z ≢ f w) xs y apart.0 l) same))
    b)
    (λ k. ⊎_elim
    (λ e'. absurd (subst (λ (v : A). f v ≢ f x) e' (each-among (λ w. f z ≢ f w) xs x apart.0 k) (sym same)))
    (λ l. one-apart f xs x y apart.1 k l same)
    b)
    a

-- ---- things that belong to others in pairs

abbrev pub ArePaired : {A B : Type 0} → (A → B → Type 0) → List A → List B → Type 0
ArePaired R [] [] = Unit {0}
ArePaired R (x ∷ xs) (y ∷ ys) = R x y × ArePaired R xs ys
ArePaired R [] (y ∷ ys) = ⊥
ArePaired R (x ∷ xs) [] = ⊥

pub paired-append : {A B : Type 0} (R : A → B → Type 0) (xs xs' : List A) (ys ys' : List B) → ArePaired R xs ys → ArePaired R xs' ys' → ArePaired R (xs ++ xs') (ys ++ ys')
paired-append R [] xs' [] ys' h k = k
paired-append R [] xs' (y ∷ ys) ys' h k = absurd h
paired-append R (x ∷ xs) xs' [] ys' h k = absurd h
paired-append R (x ∷ xs) xs' (y ∷ ys) ys' h k = (h.0, paired-append R xs xs' ys ys' h.1 k)

pub each-paired : {A B : Type 0} (R : A → B → Type 0) (P : B → Type 0) (Q : A → Type 0) → ((x : A) (y : B) → R x y → P y → Q x) → (xs : List A) (ys : List B) → ArePaired R xs ys → Each P ys → Each Q xs
each-paired R P Q f [] [] h all = tt
each-paired R P Q f [] (y ∷ ys) h all = tt
each-paired R P Q f (x ∷ xs) [] h all = absurd h
each-paired R P Q f (x ∷ xs) (y ∷ ys) h all = (f x y h.0 all.0, each-paired R P Q f xs ys h.1 all.1)
