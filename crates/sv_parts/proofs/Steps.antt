-- Steps one after the other, and lists step by step.
use Rattle.std.proofs.Common.{◌≡◌, ℕ, zero, suc, ◌+◌, ◌<◌, ◌≤◌, List, [], ◌∷◌, ◌++◌, length, drop, get_or, map, refl, sym, ap, ◌∙◌, subst, append_assoc, arith, Result, Ok, Err, drop-cons, add-one}
use Rattle.std.proofs.lemmas.List.{append-nil}
use Rattle.sv_parts.specs.State.{Outcome, Run, andThen, Meets, each, one}
use Rattle.sv_parts.specs.declared.refusal.PatchError.{PatchError}
use Rattle.sv_parts.specs.declared.refusal.PatchError.TheVariants.{Refused, NoMemory}
use Rattle.sv_parts.specs.declared.state.State.{State}

-- the same outcome was wanted
pub along : {A : Type 0} (r : Result A PatchError) (s : State) (w w' : Outcome A) → w' ≡ w → Meets r s w → Meets r s w'
along r s w w' e h = subst (λ x. Meets r s x) (sym e) h

-- what was a refusal of the first step is one of all
pub stops : {A B : Type 0} (e : PatchError) (s s' : State) (w : Outcome A) (k : A → Run B) → Meets (Err e) s w → Meets (Err e) s' (andThen w k)
stops (Refused r) s s' w k h = record { meets = ap (λ o. andThen o k) h.meets }
stops NoMemory s s' w k h = record { meets = tt }

-- after the first step
pub goes : {A B : Type 0} (x : A) (s s' : State) (r : Result B PatchError) (w : Outcome A) (k : A → Run B) → Meets (Ok x) s w → Meets r s' (k x s) → Meets r s' (andThen w k)
goes x s s' r w k h q = along r s' (k x s) (andThen w k) (ap (λ o. andThen o k) h.meets) q

pub done : {A : Type 0} (x y : A) (s s' : State) → x ≡ y → s ≡ s' → Meets (Ok x) s (Ok (y, s'))
done x y s s' e e' = record { meets = rw (e, e') refl }

-- what is left of a list: the whole comes to what was given so far, and what the rest gives
pub record Left {A B : Type 0} (step : A → ℕ → Run (List B)) (all : Outcome (List B)) (xs : List A) (i : ℕ) (so_far : List B) (s : State) : Type 0 where
  pub same : all ≡ andThen (each step i (drop i xs) s) (λ zs u. Ok (so_far ++ zs, u))

after-nothing : {B : Type 0} (o : Outcome (List B)) → o ≡ andThen o (λ zs u. Ok ([] ++ zs, u))
after-nothing (Ok p) = refl
after-nothing (Err r) = refl

pub left-begins : {A B : Type 0} (step : A → ℕ → Run (List B)) (xs : List A) (s : State) → Left step (each step 0 xs s) xs 0 [] s
left-begins step xs s = record { same = after-nothing (each step 0 xs s) }

regroup : {B : Type 0} (o : Outcome (List B)) (a b : List B) →
    andThen (andThen o (λ zs u. Ok (b ++ zs, u))) (λ zs u. Ok (a ++ zs, u)) ≡ andThen o (λ zs u. Ok ((a ++ b) ++ zs, u))
regroup (Ok p) a b = ap (λ zs. Ok (zs, p.1)) (sym (append_assoc a b p.0))
regroup (Err r) a b = refl

pub left-steps : {A B : Type 0} (step : A → ℕ → Run (List B)) (all : Outcome (List B)) (xs : List A) (i : ℕ) (so_far ys : List B) (s v : State) (x : A) →
    Left step all xs i so_far s → i < length xs → x ≡ get_or xs i x → Meets (Ok ys) v (step x i s) → Left step all xs (i + 1) (so_far ++ ys) v
left-steps step all xs i so_far ys s v x h lt is m = record {
  same = h.same ∙ rw (drop-cons xs i x, ← is) (ap (λ o. andThen (andThen o (λ zs u. andThen (each step (suc i) (drop (suc i) xs) u) (λ ws t. Ok (zs ++ ws, t)))) (λ zs u. Ok (so_far ++ zs, u))) m.meets ∙ regroup (each step (suc i) (drop (suc i) xs) v) so_far ys ∙ rw add-one refl);
}

pub left-stops : {A B : Type 0} (step : A → ℕ → Run (List B)) (all : Outcome (List B)) (xs : List A) (i : ℕ) (so_far : List B) (s v u : State) (x : A) (e : PatchError) →
    Left step all xs i so_far s → i < length xs → x ≡ get_or xs i x → Meets {A = List B} (Err e) v (step x i s) → Meets {A = List B} (Err e) u all
left-stops step all xs i so_far s v u x (Refused r) h lt is m = record {
  meets = h.same ∙ rw (drop-cons xs i x, ← is) (ap (λ o. andThen (andThen o (λ zs u. andThen (each step (suc i) (drop (suc i) xs) u) (λ ws t. Ok (zs ++ ws, t)))) (λ zs u. Ok (so_far ++ zs, u))) m.meets);
}
left-stops step all xs i so_far s v u x NoMemory h lt is m = record { meets = tt }

empty-end : {A B : Type 0} (step : A → ℕ → Run (List B)) (xs : List A) (i k : ℕ) (s : State) → length xs ≤ k → each step i (drop k xs) s ≡ Ok ([], s)
empty-end step [] i zero s le = refl
empty-end step [] i (suc k) s le = refl
empty-end step (x ∷ xs) i zero s le = absurd (omega arith)
empty-end step (x ∷ xs) i (suc k) s le = empty-end step xs i k s (omega arith)

pub left-ends : {A B : Type 0} (step : A → ℕ → Run (List B)) (all : Outcome (List B)) (xs : List A) (i : ℕ) (so_far : List B) (s : State) →
    Left step all xs i so_far s → length xs ≤ i → Meets (Ok so_far) s all
left-ends step all xs i so_far s h le = record { meets = h.same ∙ ap (λ o. andThen o (λ zs u. Ok (so_far ++ zs, u))) (empty-end step xs i i s le) ∙ ap (λ zs. Ok (zs, s)) (append-nil so_far) }

-- one result
pub one-ok : {A : Type 0} (x : A) (s : State) (o : Outcome A) → Meets (Ok x) s o → Meets (Ok (x ∷ [])) s (one o)
one-ok x s o h = record { meets = ap one h.meets }

pub one-err : {A : Type 0} (e : PatchError) (s s' : State) (o : Outcome A) → Meets (Err e) s o → Meets {A = List A} (Err e) s' (one o)
one-err e s s' o h = stops e s s' o (λ x v. Ok (x ∷ [], v)) h

-- ---- a list whose items code has in another form

map-length : {A B : Type 0} (f : A → B) (xs : List A) → length (map f xs) ≡ length xs
map-length f [] = refl
map-length f (x ∷ xs) = ap suc (map-length f xs)

map-at : {A B : Type 0} (f : A → B) (xs : List A) (i : ℕ) (x : A) → i < length xs → x ≡ get_or xs i x → f x ≡ get_or (map f xs) i (f x)
map-at f [] i x lt is = absurd (omega arith)
map-at f (y ∷ xs) zero x lt is = ap f is
map-at f (y ∷ xs) (suc i) x lt is = map-at f xs i x (omega arith) is

pub mapped-steps : {A B C : Type 0} (f : A → B) (step : B → ℕ → Run (List C)) (all : Outcome (List C)) (xs : List A) (i : ℕ) (so_far ys : List C) (s v : State) (x : A) →
    Left step all (map f xs) i so_far s → i < length xs → x ≡ get_or xs i x → Meets (Ok ys) v (step (f x) i s) → Left step all (map f xs) (i + 1) (so_far ++ ys) v
mapped-steps f step all xs i so_far ys s v x h lt is m = left-steps step all (map f xs) i so_far ys s v (f x) h (rw map-length lt) (map-at f xs i x lt is) m

pub mapped-stops : {A B C : Type 0} (f : A → B) (step : B → ℕ → Run (List C)) (all : Outcome (List C)) (xs : List A) (i : ℕ) (so_far : List C) (s v u : State) (x : A) (e : PatchError) →
    Left step all (map f xs) i so_far s → i < length xs → x ≡ get_or xs i x → Meets {A = List C} (Err e) v (step (f x) i s) → Meets {A = List C} (Err e) u all
mapped-stops f step all xs i so_far s v u x e h lt is m = left-stops step all (map f xs) i so_far s v u (f x) e h (rw map-length lt) (map-at f xs i x lt is) m

pub mapped-ends : {A B C : Type 0} (f : A → B) (step : B → ℕ → Run (List C)) (all : Outcome (List C)) (xs : List A) (i : ℕ) (so_far : List C) (s : State) →
    Left step all (map f xs) i so_far s → length xs ≤ i → Meets (Ok so_far) s all
mapped-ends f step all xs i so_far s h le = left-ends step all (map f xs) i so_far s h (rw map-length le)
