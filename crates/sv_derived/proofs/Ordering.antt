-- Derived stores in order, after each change.
use Rattle.std.proofs.Common.{◌≡◌, ℕ, ◌<◌, List, [], ◌∷◌, ◌++◌, map, length, get_or, take, drop, Bool, true, false, nat_eq, refl, sym, ap, ◌∙◌, arith, subst, ⊎_elim}
use Rattle.std.specs.Prelude.{All, not, ◌&&◌, ◌||◌}
use Rattle.std.specs.List.{AllPairs}
use Rattle.std.proofs.lemmas.Bool.{cases_lt, true≢false}
use Rattle.std.proofs.lemmas.List.{length-append, length_push, map-append, get_or_append_left, get_or_push, take_at}
use Rattle.std.proofs.lemmas.List.Elements.{All-nil, All-push, All-map}
use Rattle.sv_derived.specs.Derived.{Recipe, Derived, with_one, is_input, marked_by, marked, done_by, done, frozen_by, frozen}
use Rattle.sv_derived.specs.Order.{ids, AreBelow, IsFormed, IsOrdered}

pairs_front : {X : Type 0} (R : X → X → Type 0) (xs ys : List X) → AllPairs R (xs ++ ys) → AllPairs R xs
pairs_front R xs ys h i j d lt inside =
    let long = length-append xs ys in
    subst (λ x. R x (get_or xs j d)) (get_or_append_left xs ys d i (omega (arith, lt, inside)))
    (subst (R (get_or (xs ++ ys) i d)) (get_or_append_left xs ys d j inside) (h i j d lt (omega (arith, inside, long))))

pairs_push : {X : Type 0} (R : X → X → Type 0) (xs : List X) (y : X) → AllPairs R xs → All (λ x. R x y) xs → AllPairs R (xs ++ y ∷ [])
pairs_push R xs y h all i j d lt inside = ⊎_elim
    (λ below. let first : i < length xs = omega (arith, lt, below) in
    subst (λ x. R x (get_or (xs ++ y ∷ []) j d)) (sym (get_or_append_left xs (y ∷ []) d i first))
    (subst (R (get_or xs i d)) (sym (get_or_append_left xs (y ∷ []) d j below)) (h i j d lt below)))
    (λ last. let long = length_push xs y in let same : length xs ≡ j = omega (arith, last, inside, long) in let first : i < length xs = omega (arith, lt, same) in
    subst (λ x. R x (get_or (xs ++ y ∷ []) j d)) (sym (get_or_append_left xs (y ∷ []) d i first))
    (subst (R (get_or xs i d)) (sym (get_or_push xs y d j same)) (all i d first)))
    (cases_lt j (length xs))

pub ordered-none : IsOrdered []
ordered-none = record { ascending = λ i j d lt inside. absurd (omega (arith, inside)); formed = All-nil IsFormed }

-- one more, which was made last
pub ordered-one : (all : List Derived) (id owner : ℕ) (r : Recipe) → AreBelow r.inputs id → AreBelow (ids all) id → IsOrdered all → IsOrdered (with_one all id owner r)
ordered-one all id owner r inputs last k =
    let d : Derived = record { id = id; owner = owner; recipe = r; is_pending = false; is_frozen = false } in
    record {
      ascending = subst (AllPairs (λ m n. m < n)) (sym (map-append (λ (e : Derived). e.id) all (d ∷ []))) (pairs_push (λ m n. m < n) (ids all) id k.ascending last);
      formed = All-push IsFormed all d k.formed (record { inputs = inputs; frozen = λ e. refl });
    }

-- the first ones
pub ordered-front : (all rest : List Derived) → IsOrdered (all ++ rest) → IsOrdered all
ordered-front all rest k = record {
  ascending = pairs_front (λ m n. m < n) (ids all) (ids rest) (subst (AllPairs (λ m n. m < n)) (map-append (λ (e : Derived). e.id) all rest) k.ascending);
  formed = λ i d inside. let long = length-append all rest in subst IsFormed (get_or_append_left all rest d i inside) (k.formed i d (omega (arith, inside, long)));
}

-- a change of each that keeps its number
pub ids-map : (f : Derived → Derived) → ((d : Derived) → (f d).id ≡ d.id) → (all : List Derived) → ids (map f all) ≡ ids all
ids-map f same [] = refl
ids-map f same (d ∷ all) = λ k. same d k ∷ ids-map f same all k

ordered-map : (f : Derived → Derived) → ((d : Derived) → (f d).id ≡ d.id) → ((d : Derived) → IsFormed d → IsFormed (f d)) → (all : List Derived) → IsOrdered all → IsOrdered (map f all)
ordered-map f same each all k = record {
  ascending = subst (AllPairs (λ m n. m < n)) (sym (ids-map f same all)) k.ascending;
  formed = All-map IsFormed f all (λ i d inside. each (get_or all i d) (k.formed i d inside));
}

pub ordered-marked : (all : List Derived) (id : ℕ) → IsOrdered all → IsOrdered (marked all id)
ordered-marked all id = ordered-map (marked_by id) (λ d. refl) (λ d k. record { inputs = k.inputs; frozen = λ f. lemma d.is_pending d.is_frozen (is_input id d) f (k.frozen f) }) all
  where
    lemma : (p f i : Bool) → f ≡ true → p ≡ false → (p || (not f && i)) ≡ false
    lemma false true i e g = refl
    lemma false false i e g = absurd (true≢false (sym e))
    lemma true f i e g = absurd (true≢false g)

pub ordered-done : (all : List Derived) (id : ℕ) → IsOrdered all → IsOrdered (done all id)
ordered-done all id = ordered-map (done_by id) (λ d. refl) (λ d k. record { inputs = k.inputs; frozen = λ f. ap (λ p. p && not (nat_eq d.id id)) (k.frozen f) }) all

pub ordered-frozen : (all : List Derived) (owner : ℕ) → IsOrdered all → IsOrdered (frozen all owner)
ordered-frozen all owner = ordered-map (frozen_by owner) (λ d. refl) (λ d k. record { inputs = k.inputs; frozen = λ f. lemma d.is_pending d.is_frozen (nat_eq d.owner owner) k.frozen f }) all
  where
    lemma : (p f b : Bool) → (f ≡ true → p ≡ false) → (f || b) ≡ true → (p && not b) ≡ false
    lemma false f b k e = refl
    lemma true true b k e = absurd (true≢false (k refl))
    lemma true false true k e = refl
    lemma true false false k e = absurd (true≢false (sym e))

-- what a slice of all leaves behind
pub ordered_back : (new old wanted : List Derived) (n : ℕ) → n ≡ length old → length new ≡ length old → new ≡ wanted → IsOrdered wanted → IsOrdered (take n (new ++ drop (length new) old))
ordered_back new old wanted n e h is k = subst IsOrdered (sym (take_at new (drop (length new) old) n (h ∙ sym e) ∙ is)) k
