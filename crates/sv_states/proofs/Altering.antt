-- One of the values by number changed.
use Rattle.std.proofs.Common.{◌≡◌, ◌≢◌, ℕ, ◌+◌, ◌<◌, List, length, Option, Some, None, refl, ap, ◌∙◌, arith, Bool, true, false, cond, count_by, slice_set, ⊎_elim, ◌⊎◌, inl, inr}
use Rattle.std.proofs.lemmas.Bool.{cases_lt}
use Rattle.std.proofs.lemmas.List.{get_or-set_same, get_or-set_other, get_or_past}
use Rattle.std.proofs.lemmas.List.Sums.{sum_by-set}
use Rattle.sv_numbered.specs.Numbered.{at, altered, altered_over}

module _ {T : Type 0} where
  pub at_within : (values : List (Option T)) (n : ℕ) (x : T) → at values n ≡ Some x → n < length values
  at_within values n x there = ⊎_elim (λ h. h) (λ h. absurd (let q = get_or_past values n None h in cc)) (cases_lt n (length values))

  pub option_cases : (o : Option T) → (o ≡ None) ⊎ ((x : T) × (o ≡ Some x))
  option_cases None = inl refl
  option_cases (Some x) = inr (x, refl)

  module _ (f : T → T) (values : List (Option T)) (n : ℕ) where
    -- where the number is nobody's, nothing changes
    pub altered-none : at values n ≡ None → altered f values n ≡ values
    altered-none none = ap (λ o. altered_over f o values n) none

    pub altered-some : (x : T) → at values n ≡ Some x → altered f values n ≡ slice_set values n (Some (f x))
    altered-some x some = ap (λ o. altered_over f o values n) some

    pub at-altered_same : (x : T) → at values n ≡ Some x → at (altered f values n) n ≡ Some (f x)
    at-altered_same x some = ap (λ l. at l n) (altered-some x some) ∙ get_or-set_same values n (Some (f x)) None (at_within values n x some)

    pub at-altered_none : at values n ≡ None → at (altered f values n) n ≡ None
    at-altered_none none = ap (λ l. at l n) (altered-none none) ∙ none

    pub at-altered_other : (m : ℕ) → m ≢ n → at (altered f values n) m ≡ at values m
    at-altered_other m other = ⊎_elim
        (λ none. ap (λ l. at l m) (altered-none none))
        (λ some. ap (λ l. at l m) (altered-some some.0 some.1) ∙ get_or-set_other values n m (Some (f some.0)) None other)
        (option_cases (at values n))

    -- a test that the change keeps counts as many
    pub count-altered : (p : Option T → Bool) → ((x : T) → at values n ≡ Some x → p (Some (f x)) ≡ p (Some x)) → count_by p (altered f values n) ≡ count_by p values
    count-altered p same = ⊎_elim
        (λ none. ap (count_by p) (altered-none none))
        (λ some.
        let e = sum_by-set (λ y. cond (p y) 1 0) values n (Some (f some.0)) None (at_within values n some.0 some.1) in
        let a : ◌≡◌ {A = ℕ} (cond (p (at values n)) 1 0) (cond (p (Some some.0)) 1 0) = ap (λ y. cond (p y) 1 0) some.1 in
        let b : ◌≡◌ {A = ℕ} (cond (p (Some (f some.0))) 1 0) (cond (p (Some some.0)) 1 0) = ap (λ y. cond y 1 0) (same some.0 some.1) in
        ap (count_by p) (altered-some some.0 some.1) ∙ omega (arith, e, a, b))
        (option_cases (at values n))

    -- one that passes the test only afterwards counts one more
    pub count-altered_more : (p : Option T → Bool) (x : T) → at values n ≡ Some x → p (Some x) ≡ false → p (Some (f x)) ≡ true → count_by p (altered f values n) ≡ count_by p values + 1
    count-altered_more p x some before after =
        let e = sum_by-set (λ y. cond (p y) 1 0) values n (Some (f x)) None (at_within values n x some) in
        let a : ◌≡◌ {A = ℕ} (cond (p (at values n)) 1 0) 0 = ap (λ y. cond (p y) 1 0) some ∙ ap (λ y. cond y 1 0) before in
        let b : ◌≡◌ {A = ℕ} (cond (p (Some (f x))) 1 0) 1 = ap (λ y. cond y 1 0) after in
        ap (count_by p) (altered-some x some) ∙ omega (arith, e, a, b)

    -- one that passes it only before counts one less
    pub count-altered_less : (p : Option T → Bool) (x : T) → at values n ≡ Some x → p (Some x) ≡ true → p (Some (f x)) ≡ false → count_by p (altered f values n) + 1 ≡ count_by p values
    count-altered_less p x some before after =
        let e = sum_by-set (λ y. cond (p y) 1 0) values n (Some (f x)) None (at_within values n x some) in
        let a : ◌≡◌ {A = ℕ} (cond (p (at values n)) 1 0) 1 = ap (λ y. cond (p y) 1 0) some ∙ ap (λ y. cond y 1 0) before in
        let b : ◌≡◌ {A = ℕ} (cond (p (Some (f x))) 1 0) 0 = ap (λ y. cond y 1 0) after in
        let s = ap (count_by p) (altered-some x some) in
        omega (arith, e, a, b, s)
