-- Which points are in a list.
use Rattle.std.proofs.Common.{◌≡◌, ℕ, true, false, List, [], ◌∷◌, ◌++◌, cond, refl, sym, ap, ◌∙◌, ◌⊎◌, inl, inr}
use Rattle.std.specs.Prelude.{◌==◌, ◌||◌}
use Rattle.std.proofs.lemmas.Bool.{cases_Bool, or_cases, or_left, or_right, eqb-true, eq-eqb, false_from_ne_true}
use Rattle.std.proofs.lemmas.List.Folds.{list_any-append}
use Rattle.sv_graph.specs.Links.{is_in}
use Rattle.sv_graph.specs.Visits.{with_point}

pub is_in-append : (p : ℕ) (xs ys : List ℕ) → is_in p (xs ++ ys) ≡ (is_in p xs || is_in p ys)
is_in-append p xs ys = list_any-append (λ x. x == p) xs ys

pub in_left : (p : ℕ) (xs ys : List ℕ) → is_in p xs ≡ true → is_in p (xs ++ ys) ≡ true
in_left p xs ys h = is_in-append p xs ys ∙ or_left _ _ h

pub in_right : (p : ℕ) (xs ys : List ℕ) → is_in p ys ≡ true → is_in p (xs ++ ys) ≡ true
in_right p xs ys h = is_in-append p xs ys ∙ or_right _ _ h

pub in_parts : (p : ℕ) (xs ys : List ℕ) → is_in p (xs ++ ys) ≡ true → (is_in p xs ≡ true) ⊎ (is_in p ys ≡ true)
in_parts p xs ys h = or_cases _ _ (sym (is_in-append p xs ys) ∙ h)

pub in_head : (p : ℕ) (xs : List ℕ) → is_in p (p ∷ xs) ≡ true
in_head p xs = or_left _ _ (eq-eqb p p refl)

pub in_tail : (p x : ℕ) (xs : List ℕ) → is_in p xs ≡ true → is_in p (x ∷ xs) ≡ true
in_tail p x xs h = or_right (x == p) _ h

pub in_cons : (p x : ℕ) (xs : List ℕ) → is_in p (x ∷ xs) ≡ true → (x ≡ p) ⊎ (is_in p xs ≡ true)
in_cons p x xs h = elim (or_cases (x == p) (is_in p xs) h) [ inl e ↦ inl (eqb-true x p e) | inr e ↦ inr e ]

pub in_push : (p : ℕ) (xs : List ℕ) → is_in p (xs ++ p ∷ []) ≡ true
in_push p xs = in_right p xs (p ∷ []) (in_head p [])

pub in_push_cases : (p x : ℕ) (xs : List ℕ) → is_in p (xs ++ x ∷ []) ≡ true → (is_in p xs ≡ true) ⊎ (x ≡ p)
in_push_cases p x xs h = elim (in_parts p xs (x ∷ []) h) [
  | inl e ↦ inl e
  | inr e ↦ elim (in_cons p x [] e) [ inl same ↦ inr same | inr none ↦ absurd (let no : is_in p [] ≡ true = none in cc) ]
]

pub with_new : (p : ℕ) (xs : List ℕ) → is_in p xs ≡ false → with_point p xs ≡ xs ++ p ∷ []
with_new p xs h = ap (λ b. cond b xs (xs ++ p ∷ [])) h

pub with_old : (p : ℕ) (xs : List ℕ) → is_in p xs ≡ true → with_point p xs ≡ xs
with_old p xs h = ap (λ b. cond b xs (xs ++ p ∷ [])) h

pub in_with : (p : ℕ) (xs : List ℕ) → is_in p (with_point p xs) ≡ true
in_with p xs = elim (cases_Bool (is_in p xs)) [
  | inl h ↦ ap (is_in p) (with_old p xs h) ∙ h
  | inr h ↦ ap (is_in p) (with_new p xs h) ∙ in_push p xs
]

pub kept_with : (q p : ℕ) (xs : List ℕ) → is_in q xs ≡ true → is_in q (with_point p xs) ≡ true
kept_with q p xs here = elim (cases_Bool (is_in p xs)) [
  | inl h ↦ ap (is_in q) (with_old p xs h) ∙ here
  | inr h ↦ ap (is_in q) (with_new p xs h) ∙ in_left q xs (p ∷ []) here
]

pub pushed-other : (p x : ℕ) (xs : List ℕ) → (x ≡ p → ⊥) → is_in p (xs ++ x ∷ []) ≡ is_in p xs
pushed-other p x xs other = elim (cases_Bool (is_in p xs)) [
  | inl h ↦ in_left p xs (x ∷ []) h ∙ sym h
  | inr h ↦ false_from_ne_true _ (λ here. elim (in_push_cases p x xs here) [ inl e ↦ (let no = e in cc) | inr same ↦ other same ]) ∙ sym h
]
