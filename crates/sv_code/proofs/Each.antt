-- Facts of each of some things.
use Rattle.std.proofs.Common.{List, [], ◌∷◌, ◌++◌}
use Rattle.sv_code.specs.Names.{Each}

pub each_front : {A : Type 0} (Q : A → Type 0) (xs ys : List A) → Each Q (xs ++ ys) → Each Q xs
each_front Q [] ys h = tt
each_front Q (x ∷ xs) ys h = (h.0, each_front Q xs ys h.1)

pub each_back : {A : Type 0} (Q : A → Type 0) (xs ys : List A) → Each Q (xs ++ ys) → Each Q ys
each_back Q [] ys h = h
each_back Q (x ∷ xs) ys h = each_back Q xs ys h.1

pub each_append : {A : Type 0} (Q : A → Type 0) (xs ys : List A) → Each Q xs → Each Q ys → Each Q (xs ++ ys)
each_append Q [] ys h k = k
each_append Q (x ∷ xs) ys h k = (h.0, each_append Q xs ys h.1 k)

-- what follows of each follows of all
pub each_mono : {A : Type 0} (Q R : A → Type 0) → ((x : A) → Q x → R x) → (xs : List A) → Each Q xs → Each R xs
each_mono Q R f [] h = tt
each_mono Q R f (x ∷ xs) h = (f x h.0, each_mono Q R f xs h.1)

pub each_of : {A : Type 0} (Q : A → Type 0) → ((x : A) → Q x) → (xs : List A) → Each Q xs
each_of Q f [] = tt
each_of Q f (x ∷ xs) = (f x, each_of Q f xs)
