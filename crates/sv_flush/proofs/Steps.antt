-- Steps of code beside the steps that they are to meet.
use Rattle.std.proofs.Common.{◌≡◌, ℕ, zero, suc, ◌+◌, ◌<◌, ◌≤◌, List, [], ◌∷◌, length, map, drop, get_or, refl, sym, ap, ◌∙◌, subst, arith, Result, Ok, Err, drop-cons, add-one}
use Rattle.std.specs.Result.{IsErrAnd}
use Rattle.sv_flush.specs.Meets.{Meets, MeetsBody}
use Rattle.sv_flush.specs.Outcome.{Outcome, Done, Step, Task, and_then, each}
use Rattle.sv_flush.specs.declared.page.Page.{Page}
use Rattle.sv_parts.specs.declared.refusal.PatchError.{PatchError}
use Rattle.sv_parts.specs.declared.refusal.PatchError.TheVariants.{Refused, NoMemory}

-- what a step that answered Ok gave
pub met : {A : Type 0} (r : Result A PatchError) (a : A) (m : Page) (o : Outcome A) → r ≡ Ok a → Meets r m o → o ≡ Done a m
met r a m o i g = subst (λ z. MeetsBody z m o) i g.meets

-- a step that answered Ok, and what comes behind it
pub behind : {A B : Type 0} (r : Result A PatchError) (a : A) (v : Page) (o : Outcome A) (next : A → Step B) (r' : Result B PatchError) (m : Page) →
    r ≡ Ok a → Meets r v o → Meets r' m (next a v) → Meets r' m (and_then o next)
behind r a v o next r' m i g h = subst (Meets r' m) (sym (ap (λ z. and_then z next) (met r a v o i g))) h

halted : {A B : Type 0} (e : PatchError) (m : Page) (o : Outcome A) (next : A → Step B) → MeetsBody {A = A} (Err e) m o → MeetsBody {A = B} (Err e) m (and_then o next)
halted (Refused r) m o next g = ap (λ z. and_then z next) g
halted NoMemory m o next g = tt

-- the error of a step is handed on
pub exit : {A B : Type 0} (r : Result A PatchError) (e : PatchError) (r' : Result B PatchError) (m : Page) (o : Outcome A) (next : A → Step B) →
    r ≡ Err e → IsErrAnd r' (λ y. y ≡ e) → Meets r m o → Meets r' m (and_then o next)
exit r e (Ok b) m o next i k g = absurd k
exit r e (Err y) m o next i k g = record { meets = subst (λ z. MeetsBody (Err z) m (and_then o next)) (sym k) (halted e m o next (subst (λ z. MeetsBody z m o) i g.meets)) }

-- ---- tasks for the items of a list

-- what is left of the tasks for the items of a list, from one with a number on
pub record Left {A : Type 0} (task : A → Task) (all : Outcome (Unit {0})) (xs : List A) (i : ℕ) (page : Page) : Type 0 where
  pub same : all ≡ each task (drop i xs) page

pub left-begins : {A : Type 0} (task : A → Task) (xs : List A) (page : Page) → Left task (each task xs page) xs 0 page
left-begins task xs page = record { same = refl }

pub left-steps : {A : Type 0} (task : A → Task) (all : Outcome (Unit {0})) (xs : List A) (i : ℕ) (x : A) (u : Unit {0}) (page next : Page) →
    Left task all xs i page → i < length xs → x ≡ get_or xs i x → Meets {A = Unit {0}} (Ok u) next (task x page) → Left task all xs (i + 1) next
left-steps task all xs i x u page next h lt is m = record {
  same = h.same ∙ rw (drop-cons xs i x, ← is) (ap (λ o. and_then o (λ _. each task (drop (suc i) xs))) m.meets ∙ rw add-one refl);
}

pub left-stops : {A : Type 0} (task : A → Task) (all : Outcome (Unit {0})) (xs : List A) (i : ℕ) (x : A) (e : PatchError) (page next : Page) →
    Left task all xs i page → i < length xs → x ≡ get_or xs i x → Meets {A = Unit {0}} (Err e) next (task x page) → Meets {A = Unit {0}} (Err e) next all
left-stops task all xs i x (Refused r) page next h lt is m = record { meets = h.same ∙ rw (drop-cons xs i x, ← is) (ap (λ o. and_then o (λ _. each task (drop (suc i) xs))) m.meets) }
left-stops task all xs i x NoMemory page next h lt is m = record { meets = tt }

none-left : {A : Type 0} (task : A → Task) (xs : List A) (i : ℕ) (page : Page) → length xs ≤ i → each task (drop i xs) page ≡ Done tt page
none-left task [] zero page le = refl
none-left task [] (suc i) page le = refl
none-left task (x ∷ xs) zero page le = absurd (omega arith)
none-left task (x ∷ xs) (suc i) page le = none-left task xs i page (omega arith)

pub left-ends : {A : Type 0} (task : A → Task) (all : Outcome (Unit {0})) (xs : List A) (i : ℕ) (page : Page) → Left task all xs i page → length xs ≤ i → Meets {A = Unit {0}} (Ok tt) page all
left-ends task all xs i page h le = record { meets = h.same ∙ none-left task xs i page le }

-- ---- a list whose items code has in another form

map-length : {A B : Type 0} (f : A → B) (xs : List A) → length (map f xs) ≡ length xs
map-length f [] = refl
map-length f (x ∷ xs) = ap suc (map-length f xs)

map-at : {A B : Type 0} (f : A → B) (xs : List A) (i : ℕ) (x : A) → i < length xs → x ≡ get_or xs i x → f x ≡ get_or (map f xs) i (f x)
map-at f [] i x lt is = absurd (omega arith)
map-at f (y ∷ xs) zero x lt is = ap f is
map-at f (y ∷ xs) (suc i) x lt is = map-at f xs i x (omega arith) is

pub mapped-steps : {A B : Type 0} (f : A → B) (task : B → Task) (all : Outcome (Unit {0})) (xs : List A) (i : ℕ) (x : A) (u : Unit {0}) (page next : Page) →
    Left task all (map f xs) i page → i < length xs → x ≡ get_or xs i x → Meets {A = Unit {0}} (Ok u) next (task (f x) page) → Left task all (map f xs) (i + 1) next
mapped-steps f task all xs i x u page next h lt is m = left-steps task all (map f xs) i (f x) u page next h (rw map-length lt) (map-at f xs i x lt is) m

pub mapped-stops : {A B : Type 0} (f : A → B) (task : B → Task) (all : Outcome (Unit {0})) (xs : List A) (i : ℕ) (x : A) (e : PatchError) (page next : Page) →
    Left task all (map f xs) i page → i < length xs → x ≡ get_or xs i x → Meets {A = Unit {0}} (Err e) next (task (f x) page) → Meets {A = Unit {0}} (Err e) next all
mapped-stops f task all xs i x e page next h lt is m = left-stops task all (map f xs) i (f x) e page next h (rw map-length lt) (map-at f xs i x lt is) m

pub mapped-ends : {A B : Type 0} (f : A → B) (task : B → Task) (all : Outcome (Unit {0})) (xs : List A) (i : ℕ) (page : Page) →
    Left task all (map f xs) i page → length xs ≤ i → Meets {A = Unit {0}} (Ok tt) page all
mapped-ends f task all xs i page h le = left-ends task all (map f xs) i page h (rw map-length le)

-- ---- exits of loops

pub at-any : {A : Type 0} (xs : List A) (i : ℕ) (d e : A) → i < length xs → get_or xs i d ≡ get_or xs i e
at-any [] i d e lt = absurd (omega arith)
at-any (x ∷ xs) zero d e lt = refl
at-any (x ∷ xs) (suc i) d e lt = at-any xs i d e (omega arith)

pub handed-on : (e : PatchError) (r' : Result (Unit {0}) PatchError) (m : Page) (o : Outcome (Unit {0})) → Meets {A = Unit {0}} (Err e) m o → IsErrAnd r' (λ y. y ≡ e) → Meets r' m o
handed-on e (Ok u) m o g k = absurd k
handed-on e (Err y) m o g k = subst (λ z. Meets {A = Unit {0}} (Err z) m o) (sym k) g

-- the task for an item answered Ok
pub left-goes : {A : Type 0} (task : A → Task) (all : Outcome (Unit {0})) (xs : List A) (i : ℕ) (d : A) (u : Unit {0}) (page next : Page) (r : Result (Unit {0}) PatchError)
    → Left task all xs i page → i < length xs → r ≡ Ok u → Meets r next (task (get_or xs i d) page) → Left task all xs (i + 1) next
left-goes task all xs i d u page next r h lt was m =
    left-steps task all xs i (get_or xs i d) u page next h lt (at-any xs i d (get_or xs i d) lt) (subst (λ z. Meets z next (task (get_or xs i d) page)) was m)

-- it was refused, and its error is handed on
pub left-exit : {A : Type 0} (task : A → Task) (all : Outcome (Unit {0})) (xs : List A) (i : ℕ) (d : A) (e : PatchError) (page next : Page) (r r' : Result (Unit {0}) PatchError)
    → Left task all xs i page → i < length xs → r ≡ Err e → Meets r next (task (get_or xs i d) page) → IsErrAnd r' (λ y. y ≡ e) → Meets r' next all
left-exit task all xs i d e page next r r' h lt was m k =
    handed-on e r' next all
    (left-stops task all xs i (get_or xs i d) e page next h lt (at-any xs i d (get_or xs i d) lt) (subst (λ z. Meets z next (task (get_or xs i d) page)) was m)) k

-- the same where code has the items in another form
pub mapped-goes : {A B : Type 0} (f : A → B) (task : B → Task) (all : Outcome (Unit {0})) (xs : List A) (i : ℕ) (d : A) (u : Unit {0}) (page next : Page) (r : Result (Unit {0}) PatchError)
    → Left task all (map f xs) i page → i < length xs → r ≡ Ok u → Meets r next (task (f (get_or xs i d)) page) → Left task all (map f xs) (i + 1) next
mapped-goes f task all xs i d u page next r h lt was m =
    mapped-steps f task all xs i (get_or xs i d) u page next h lt (at-any xs i d (get_or xs i d) lt) (subst (λ z. Meets z next (task (f (get_or xs i d)) page)) was m)

pub mapped-exit : {A B : Type 0} (f : A → B) (task : B → Task) (all : Outcome (Unit {0})) (xs : List A) (i : ℕ) (d : A) (e : PatchError) (page next : Page) (r r' : Result (Unit {0}) PatchError)
    → Left task all (map f xs) i page → i < length xs → r ≡ Err e → Meets r next (task (f (get_or xs i d)) page) → IsErrAnd r' (λ y. y ≡ e) → Meets r' next all
mapped-exit f task all xs i d e page next r r' h lt was m k =
    handed-on e r' next all
    (mapped-stops f task all xs i (get_or xs i d) e page next h lt (at-any xs i d (get_or xs i d) lt) (subst (λ z. Meets z next (task (f (get_or xs i d)) page)) was m)) k
