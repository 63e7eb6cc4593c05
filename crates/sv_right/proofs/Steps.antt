-- What is so after a step, and after steps one behind the other.
use Rattle.std.proofs.Common.{◌≡◌, ◌≤◌, Bool, true, false, List, ◌∷◌, ◌++◌, Option, Some, None, refl, subst, arith, Ok, Err, if◌then◌else◌}
use Rattle.sv_code.specs.declared.parts.Part.{Part}
use Rattle.sv_parts.specs.Parts.{renewed}
use Rattle.sv_parts.specs.Sides.{Sides, moved}
use Rattle.sv_parts.specs.State.{Outcome, Run, andThen, one}
use Rattle.sv_parts.specs.declared.state.State.{State}

-- something is so after a step that isn't refused
abbrev pub After : {A : Type 0} → Outcome A → (A → State → Type 0) → Type 0
After (Ok p) Q = Q p.0 p.1
After (Err r) Q = Unit {0}

pub ok_after : {A : Type 0} (o : Outcome A) (Q : A → State → Type 0) (x : A) (s : State) → After o Q → o ≡ Ok (x, s) → Q x s
ok_after o Q x s h e = subst (λ z. After z Q) e h

pub then_after : {A B : Type 0} (o : Outcome A) (k : A → Run B) (R : A → State → Type 0) (Q : B → State → Type 0) → After o R → ((x : A) (v : State) → R x v → After (k x v) Q) →
    After (andThen o k) Q
then_after (Ok p) k R Q h f = f p.0 p.1 h
then_after (Err r) k R Q h f = tt

pub more_after : {A : Type 0} (o : Outcome A) (R Q : A → State → Type 0) → After o R → ((x : A) (v : State) → R x v → Q x v) → After o Q
more_after (Ok p) R Q h f = f p.0 p.1 h
more_after (Err r) R Q h f = tt

pub if_after : {A : Type 0} (b : Bool) (o o' : Outcome A) (Q : A → State → Type 0) → (b ≡ true → After o Q) → (b ≡ false → After o' Q) → After (if b then o else o') Q
if_after true o o' Q f g = f refl
if_after false o o' Q f g = g refl

-- two things are so, and a thing of each
pub both_after : {A : Type 0} (o : Outcome A) (P Q : A → State → Type 0) → After o P → After o Q → After o (λ x u. P x u × Q x u)
both_after (Ok x) P Q h k = (h, k)
both_after (Err r) P Q h k = tt

pub all_after : {A B : Type 0} (o : Outcome A) (Q : B → A → State → Type 0) → ((y : B) → After o (Q y)) → After o (λ x u. (y : B) → Q y x u)
all_after (Ok x) Q h = h
all_after (Err r) Q h = tt

-- one more item before the others
pub cons_after : {A : Type 0} (o : Outcome A) (k : State → Outcome (List A)) (R : A → State → Type 0) (Q : List A → State → Type 0) → After o R →
    ((x : A) (v : State) → R x v → After (k v) (λ zs u. Q (x ∷ zs) u)) → After (andThen (one o) (λ ys v. andThen (k v) (λ zs u. Ok (ys ++ zs, u)))) Q
cons_after (Ok p) k R Q h f = then_after (k p.1) (λ zs u. Ok (p.0 ∷ zs, u)) (λ zs u. Q (p.0 ∷ zs) u) Q (f p.0 p.1 h) (λ zs u q. q)
cons_after (Err r) k R Q h f = tt

-- what is evaluated anew, or stays
pub renewed_after : {A : Type 0} (part : Part) (anew : Run A) (old : Option A) (at : Sides) (s : State) (Q : A → State → Type 0) → After (anew s) Q →
    ((a : A) → old ≡ Some a → moved part.reads at ≡ false → Q a s) → After (renewed part anew old at s) Q
renewed_after part anew None at s Q h f = h
renewed_after part anew (Some a) at s Q h f = if_after (moved part.reads at) (anew s) (Ok (a, s)) Q (λ _. h) (λ e. f a refl e)

-- ---- numbers

-- no number is given twice
abbrev pub Grows : State → State → Type 0
Grows s v = s.counters.next ≤ v.counters.next

pub grows_same : (s : State) → Grows s s
grows_same s = omega arith

pub grows_on : (s v u : State) → Grows s v → Grows v u → Grows s u
grows_on s v u h k = omega (arith, h, k)

-- a step gives no number twice
abbrev pub Up : {A : Type 0} → State → A → State → Type 0
Up s x v = Grows s v

pub up_then : {A B : Type 0} (s : State) (o : Outcome A) (k : A → Run B) → After o (Up s) → ((x : A) (v : State) → After (k x v) (Up v)) → After (andThen o k) (Up s)
up_then s o k h f = then_after o k (Up s) (Up s) h (λ x v g. more_after (k x v) (Up v) (Up s) (f x v) (λ y u q. grows_on s v u g q))
