-- Where an attribute is put.
use Rattle.std.proofs.Common.{zero, ◌≡◌, ◌<◌, ◌≤◌, ◌+◌, ◌==◌, ℕ, suc, List, [], ◌∷◌, length, get_or, set, Bool, true, false, refl, ap, sym, ◌∙◌, arith}
use Rattle.std.specs.Prelude.{nat_lt, nat_eq, insert, remove, not}
use Rattle.std.specs.List.{prefix_len}
use Rattle.std.proofs.lemmas.Bool.{eq-eqb, ne_eqb, ltb-true, ltb-false, lt-ltb, le-ltb}
use Rattle.sv_tokens.specs.Edit.{put, drop_slot}
use Rattle.sv_tokens.specs.declared.element.Attribute.{Attribute}

abbrev before : ℕ → List Attribute → ℕ
before slot xs = prefix_len (λ (a : Attribute). nat_lt a.slot slot) xs

one-more : (k : ℕ) → 1 + k ≡ suc k
one-more k = omega arith

lt-not-eq : (a b : ℕ) → nat_lt a b ≡ true → (b == a) ≡ false
lt-not-eq a b less = ne_eqb b a (λ same. omega (arith, ltb-true a b less, same))

lt-not-lt : (a b : ℕ) → nat_lt a b ≡ true → nat_lt b a ≡ false
lt-not-lt a b less = le-ltb b a (omega (arith, ltb-true a b less))

replaced-by : (x : Attribute) (xs : List Attribute) (p d : Attribute) (n : ℕ) → n ≡ before p.slot (x ∷ xs) → n < length (x ∷ xs) → (get_or (x ∷ xs) n d).slot ≡ p.slot
    → (before p.slot xs < length xs → (get_or xs (before p.slot xs) d).slot ≡ p.slot → set xs (before p.slot xs) p ≡ put p xs)
    → (b : Bool) → nat_lt x.slot p.slot ≡ b → set (x ∷ xs) n p ≡ put p (x ∷ xs)
replaced-by x xs p d n is below same ih true less =
    let next : n ≡ suc (before p.slot xs) = is ∙ (rw less (one-more (before p.slot xs))) in
    let rest = ih (omega (arith, next)) (rw next at same) in
    rw (next, lt-not-eq x.slot p.slot less, lt-not-lt x.slot p.slot less) (ap (λ others. x ∷ others) rest)
replaced-by x xs p d n is below same ih false more =
    let here : n ≡ 0 = is ∙ rw more refl in
    let slot : x.slot ≡ p.slot = rw here at same in
    rw (here, eq-eqb p.slot x.slot (sym slot)) refl

-- an attribute takes the place of the one at its slot
pub put-replaced : (xs : List Attribute) (p d : Attribute) (n : ℕ) → n ≡ before p.slot xs → n < length xs → (get_or xs n d).slot ≡ p.slot
    → set xs n p ≡ put p xs
put-replaced [] p d n is below same = absurd (omega arith)
put-replaced (x ∷ xs) p d n is below same =
    replaced-by x xs p d n is below same (put-replaced xs p d (before p.slot xs) refl) (nat_lt x.slot p.slot) refl

inserted-by : (x : Attribute) (xs : List Attribute) (p d : Attribute) (n : ℕ) → n ≡ before p.slot (x ∷ xs) → (n < length (x ∷ xs) → (get_or (x ∷ xs) n d).slot ≡ p.slot → ⊥)
    → ((before p.slot xs < length xs → (get_or xs (before p.slot xs) d).slot ≡ p.slot → ⊥) → insert xs (before p.slot xs) p ≡ put p xs)
    → (b : Bool) → nat_lt x.slot p.slot ≡ b → insert (x ∷ xs) n p ≡ put p (x ∷ xs)
inserted-by x xs p d n is other ih true less =
    let next : n ≡ suc (before p.slot xs) = is ∙ (rw less (one-more (before p.slot xs))) in
    let rest = ih (λ below same. other (omega (arith, next, below)) (rw next same)) in
    rw (next, lt-not-eq x.slot p.slot less, lt-not-lt x.slot p.slot less) (ap (λ others. x ∷ others) rest)
inserted-by x xs p d n is other ih false more =
    let here : n ≡ 0 = is ∙ rw more refl in
    let apart : p.slot ≡ x.slot → ⊥ = λ same. other (rw here (omega arith)) (rw here (sym same)) in
    let after : nat_lt p.slot x.slot ≡ true = lt-ltb p.slot x.slot (omega (arith, ltb-false x.slot p.slot more, apart)) in
    rw (here, ne_eqb p.slot x.slot apart, after) refl

-- an attribute is put before the first one at a greater slot
pub put-inserted : (xs : List Attribute) (p d : Attribute) (n : ℕ) → n ≡ before p.slot xs → (n < length xs → (get_or xs n d).slot ≡ p.slot → ⊥)
    → insert xs n p ≡ put p xs
put-inserted [] p d n is other = rw is refl
put-inserted (x ∷ xs) p d n is other =
    inserted-by x xs p d n is other (put-inserted xs p d (before p.slot xs) refl) (nat_lt x.slot p.slot) refl

abbrev place : ℕ → List Attribute → ℕ
place slot xs = prefix_len (λ (a : Attribute). not (nat_eq slot a.slot)) xs

dropped-by : (slot : ℕ) (x : Attribute) (xs : List Attribute) (n : ℕ) → n ≡ place slot (x ∷ xs) → n < length (x ∷ xs)
    → (place slot xs < length xs → remove xs (place slot xs) ≡ drop_slot slot xs) → (b : Bool) → nat_eq slot x.slot ≡ b → remove (x ∷ xs) n ≡ drop_slot slot (x ∷ xs)
dropped-by slot x xs n is below ih true same =
    let here : n ≡ 0 = is ∙ (rw same refl) in
    rw (here, same) refl
dropped-by slot x xs n is below ih false other =
    let next : n ≡ suc (place slot xs) = is ∙ (rw other (one-more (place slot xs))) in
    rw (next, other) (ap (λ others. x ∷ others) (ih (omega (arith, next, below))))

-- the attribute at a slot is taken away
pub remove-dropped : (slot : ℕ) (xs : List Attribute) (n : ℕ) → n ≡ place slot xs → n < length xs → remove xs n ≡ drop_slot slot xs
remove-dropped slot [] n is below = absurd (omega (arith, below))
remove-dropped slot (x ∷ xs) n is below = dropped-by slot x xs n is below (remove-dropped slot xs (place slot xs) refl) (nat_eq slot x.slot) refl

kept-by : (slot : ℕ) (x : Attribute) (xs : List Attribute) (n : ℕ) → n ≡ place slot (x ∷ xs) → length (x ∷ xs) ≤ n
    → (length xs ≤ place slot xs → xs ≡ drop_slot slot xs) → (b : Bool) → nat_eq slot x.slot ≡ b → x ∷ xs ≡ drop_slot slot (x ∷ xs)
kept-by slot x xs n is past ih true same =
    let here : n ≡ 0 = is ∙ (rw same refl) in
    absurd (omega (arith, here, past))
kept-by slot x xs n is past ih false other =
    let next : n ≡ suc (place slot xs) = is ∙ (rw other (one-more (place slot xs))) in
    rw other (ap (λ others. x ∷ others) (ih (omega (arith, next, past))))

-- where no attribute has the slot, none is taken away
pub none-dropped : (slot : ℕ) (xs : List Attribute) (n : ℕ) → n ≡ place slot xs → length xs ≤ n → xs ≡ drop_slot slot xs
none-dropped slot [] n is past = refl
none-dropped slot (x ∷ xs) n is past = kept-by slot x xs n is past (none-dropped slot xs (place slot xs) refl) (nat_eq slot x.slot) refl

get-set : (xs : List Attribute) (n : ℕ) (p d : Attribute) → n < length xs → get_or (set xs n p) n d ≡ p
get-set [] n p d inside = absurd (omega (arith, inside))
get-set (x ∷ xs) zero p d inside = refl
get-set (x ∷ xs) (suc n) p d inside = get-set xs n p d (omega (arith, inside))

set-get : (xs : List Attribute) (n : ℕ) (p d : Attribute) → get_or xs n d ≡ p → n < length xs → set xs n p ≡ xs
set-get [] n p d is inside = absurd (omega (arith, inside))
set-get (x ∷ xs) zero p d is inside = ap (λ z. z ∷ xs) (sym is)
set-get (x ∷ xs) (suc n) p d is inside = ap (λ z. x ∷ z) (set-get xs n p d is (omega (arith, inside)))

length-insert : (xs : List Attribute) (n : ℕ) (p : Attribute) → length (insert xs n p) ≡ suc (length xs)
length-insert [] zero p = refl
length-insert [] (suc n) p = refl
length-insert (x ∷ xs) zero p = refl
length-insert (x ∷ xs) (suc n) p = ap suc (length-insert xs n p)

length-remove : (xs : List Attribute) (n : ℕ) → n < length xs → suc (length (remove xs n)) ≡ length xs
length-remove [] n inside = absurd (omega (arith, inside))
length-remove (x ∷ xs) zero inside = refl
length-remove (x ∷ xs) (suc n) inside = ap suc (length-remove xs n (omega (arith, inside)))

-- an attribute that is there is put there again
pub put-here : (xs : List Attribute) (p d : Attribute) (n : ℕ) → n ≡ before p.slot xs → n < length xs → get_or xs n d ≡ p → put p xs ≡ xs
put-here xs p d n is inside here = sym (put-replaced xs p d n is inside (ap (λ a. a.slot) here)) ∙ set-get xs n p d here inside

-- another one at its slot is not
pub put-other : (xs : List Attribute) (p d : Attribute) (n : ℕ) → n ≡ before p.slot xs → n < length xs → (get_or xs n d).slot ≡ p.slot → put p xs ≡ xs → get_or xs n d ≡ p
put-other xs p d n is inside slot same =
    let all : set xs n p ≡ xs = put-replaced xs p d n is inside slot ∙ same in
    ap (λ z. get_or z n d) (sym all) ∙ get-set xs n p d inside

pub put-more : (xs : List Attribute) (p d : Attribute) (n : ℕ) → n ≡ before p.slot xs → (n < length xs → (get_or xs n d).slot ≡ p.slot → ⊥) → put p xs ≡ xs → ⊥
put-more xs p d n is other same =
    let all : insert xs n p ≡ xs = put-inserted xs p d n is other ∙ same in
    let more = length-insert xs n p in
    let size = ap length all in
    omega (arith, more, size)

pub dropped-less : (slot : ℕ) (xs : List Attribute) (n : ℕ) → n ≡ place slot xs → n < length xs → drop_slot slot xs ≡ xs → ⊥
dropped-less slot xs n is inside same =
    let all : remove xs n ≡ xs = remove-dropped slot xs n is inside ∙ same in
    let less = length-remove xs n inside in
    let size = ap length all in
    omega (arith, less, size)
