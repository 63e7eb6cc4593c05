-- Deeds for the items of a list that code has in another form.
use Rattle.std.proofs.Common.{◌≡◌, ℕ, suc, ◌+◌, ◌<◌, List, [], ◌∷◌, length, map, drop, get_or, Result, Ok, Err, refl, sym, ap, subst, ◌∙◌, arith, drop-cons}
use Rattle.std.specs.Result.{IsErrAnd}
use Rattle.sv_meaning.specs.Gives.{EndsAs}
use Rattle.sv_meaning.specs.declared.errors.EvalError.{EvalError}
use Rattle.sv_meaning.specs.declared.errors.EvalError.TheVariants.{Fault, NoMemory}
use Rattle.sv_meaning.specs.Outcome.{Ending, Ends, Fails, Deed, then_do}
use Rattle.sv_meaning.specs.Runs.{each_in_turn}
use Rattle.sv_world.specs.declared.world.World.{World}

then-same : (o : Ending (Unit {0})) (g h : Unit {0} → Deed (Unit {0})) → ((u : Unit {0}) (w : World) → g u w ≡ h u w) → then_do o g ≡ then_do o h
then-same (Ends u w) g h same = same u w
then-same (Fails k s w) g h same = refl

pub each-mapped : {A B : Type 0} (f : A → B) (deed : B → Deed (Unit {0})) (xs : List A) (w : World) → each_in_turn (λ x. deed (f x)) xs w ≡ each_in_turn deed (map f xs) w
each-mapped f deed [] w = refl
each-mapped f deed (x ∷ xs) w = then-same (deed (f x) w) _ _ (λ u v. each-mapped f deed xs v)

abbrev Ending-of : Result (Unit {0}) EvalError → World → Ending (Unit {0}) → Type 0
Ending-of r w e = EndsAs {A = Unit {0}} {B = Unit {0}} (λ u. u) r w e

refused : {A : Type 0} (deed : A → Deed (Unit {0})) (xs : List A) (i : ℕ) (x : A) (w next : World) (e : EvalError) → i < length xs → x ≡ get_or xs i x
    → Ending-of (Err e) next (deed x w) → Ending-of (Err e) next (each_in_turn deed (drop i xs) w)
refused deed xs i x w next (Fault f) lt is m = rw (drop-cons xs i x, ← is) (ap (λ o. then_do o (λ _. each_in_turn deed (drop (suc i) xs))) m)
refused deed xs i x w next NoMemory lt is m = tt

-- the error of a deed is handed on
pub deed-exit : {A : Type 0} (deed : A → Deed (Unit {0})) (all : Ending (Unit {0})) (xs : List A) (i : ℕ) (x : A) (w next : World) (e : EvalError) (r r' : Result (Unit {0}) EvalError)
    → all ≡ each_in_turn deed (drop i xs) w → i < length xs → x ≡ get_or xs i x → r ≡ Err e → Ending-of r next (deed x w) → IsErrAnd r' (λ y. y ≡ e) → Ending-of r' next all
deed-exit deed all xs i x w next e r (Ok u) h lt is was m k = absurd k
deed-exit deed all xs i x w next e r (Err y) h lt is was m k =
    let met : Ending-of (Err e) next (each_in_turn deed (drop i xs) w) = refused deed xs i x w next e lt is (subst (λ z. Ending-of z next (deed x w)) was m) in
    subst (λ o. Ending-of (Err y) next o) (sym h) (subst (λ z. Ending-of (Err z) next (each_in_turn deed (drop i xs) w)) (sym k) met)

-- the next item, where the deed for one ended
pub deed-next : {A : Type 0} (deed : A → Deed (Unit {0})) (all : Ending (Unit {0})) (xs : List A) (i : ℕ) (x : A) (w next : World) (r : Result (Unit {0}) EvalError) (u : Unit {0})
    → all ≡ each_in_turn deed (drop i xs) w → i < length xs → x ≡ get_or xs i x → r ≡ Ok u → Ending-of r next (deed x w) → all ≡ each_in_turn deed (drop (i + 1) xs) next
deed-next deed all xs i x w next r u h lt is was m =
    let further : suc i ≡ i + 1 = omega arith in
    h ∙ step (subst (λ z. Ending-of z next (deed x w)) was m) ∙ ap (λ k. each_in_turn deed (drop k xs) next) further
  where
    step : deed x w ≡ Ends u next → each_in_turn deed (drop i xs) w ≡ each_in_turn deed (drop (suc i) xs) next
    step e = rw (drop-cons xs i x, ← is) (ap (λ o. then_do o (λ _. each_in_turn deed (drop (suc i) xs))) e)
