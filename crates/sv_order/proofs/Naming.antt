-- Names in lists, and the two ways to say that a statement is before another.
use Rattle.std.proofs.Common.{◌≡◌, ℕ, zero, suc, ◌+◌, ◌<◌, ◌≤◌, Bool, true, false, cond, List, [], ◌∷◌, length, map, refl, sym, ap, ◌∙◌, inl, inr, subst, arith}
use Rattle.std.specs.Prelude.{not, filter}
use Rattle.std.specs.List.{flat_map, range_with_len}
use Rattle.std.proofs.lemmas.Bool.{cases_Bool, cases_lt, false≢true, or_right, not-true, not_from_false}
use Rattle.std.proofs.lemmas.List.{get_or_past, length-map}
use Rattle.sv_ast.specs.declared.names.Ref.{Ref}
use Rattle.sv_graph.specs.Links.{is_in}
use Rattle.sv_graph.proofs.Points.{in_head, in_tail, in_cons, in_left, in_right, in_parts}
use Rattle.sv_order.specs.declared.reads.Reads.{Reads}
use Rattle.sv_names.specs.Distinct.{same_ref, has}
use Rattle.sv_names.proofs.Same.{has-head, has-cons}
use Rattle.sv_order.specs.ReactiveOrder.{reads_of, sets_of, Before, needs_of, setters_of, before_of}

-- ---- filters

pub filter-yes : {X : Type 0} (test : X → Bool) (x : X) (xs : List X) → test x ≡ true → filter test (x ∷ xs) ≡ x ∷ filter test xs
filter-yes test x xs h = ap (λ b. cond b (x ∷ filter test xs) (filter test xs)) h

pub filter-no : {X : Type 0} (test : X → Bool) (x : X) (xs : List X) → test x ≡ false → filter test (x ∷ xs) ≡ filter test xs
filter-no test x xs h = ap (λ b. cond b (x ∷ filter test xs) (filter test xs)) h

has-filter : (test : Ref → Bool) (name : Ref) (xs : List Ref) → has name xs ≡ true → test name ≡ true → has name (filter test xs) ≡ true
has-filter test name [] h yes_it = h
has-filter test name (x ∷ xs) h passes =
    let deeper = λ (later : has name xs ≡ true). has-filter test name xs later passes in
    elim (has-cons name x xs h) [
      | inl same ↦ subst (λ z. has name z ≡ true) (sym (filter-yes test x xs (ap test (sym same) ∙ passes))) (has-head name x (filter test xs) same)
      | inr later ↦ elim (cases_Bool (test x)) [
        | inl t ↦ subst (λ z. has name z ≡ true) (sym (filter-yes test x xs t)) (or_right (same_ref name x) _ (deeper later))
        | inr f ↦ subst (λ z. has name z ≡ true) (sym (filter-no test x xs f)) (deeper later)
      ]
    ]

filter-has : (test : Ref → Bool) (name : Ref) (xs : List Ref) → has name (filter test xs) ≡ true → (has name xs ≡ true) × (test name ≡ true)
filter-has test name [] h = absurd (false≢true h)
filter-has test name (x ∷ xs) h =
    let deeper = λ (later : has name (filter test xs) ≡ true). filter-has test name xs later in
    elim (cases_Bool (test x)) [
      | inl t ↦ elim (has-cons name x (filter test xs) (subst (λ z. has name z ≡ true) (filter-yes test x xs t) h)) [
        | inl same ↦ (has-head name x xs same, ap test same ∙ t)
        | inr later ↦ (let r = deeper later in (or_right (same_ref name x) _ r.0, r.1))
      ]
      | inr f ↦ (let r = deeper (subst (λ z. has name z ≡ true) (filter-no test x xs f) h) in (or_right (same_ref name x) _ r.0, r.1))
    ]

pub in-filter : (test : ℕ → Bool) (p : ℕ) (xs : List ℕ) → is_in p xs ≡ true → test p ≡ true → is_in p (filter test xs) ≡ true
in-filter test p [] h passes = h
in-filter test p (x ∷ xs) h passes =
    let deeper = λ (later : is_in p xs ≡ true). in-filter test p xs later passes in
    elim (in_cons p x xs h) [
      | inl same ↦ subst (λ z. is_in p z ≡ true) (sym (filter-yes test x xs (ap test same ∙ passes))) (subst (λ z. is_in p (z ∷ filter test xs) ≡ true) (sym same) (in_head p (filter test xs)))
      | inr later ↦ elim (cases_Bool (test x)) [
        | inl t ↦ subst (λ z. is_in p z ≡ true) (sym (filter-yes test x xs t)) (in_tail p x (filter test xs) (deeper later))
        | inr f ↦ subst (λ z. is_in p z ≡ true) (sym (filter-no test x xs f)) (deeper later)
      ]
    ]

pub filter-in : (test : ℕ → Bool) (p : ℕ) (xs : List ℕ) → is_in p (filter test xs) ≡ true → (is_in p xs ≡ true) × (test p ≡ true)
filter-in test p [] h = absurd (false≢true h)
filter-in test p (x ∷ xs) h =
    let deeper = λ (later : is_in p (filter test xs) ≡ true). filter-in test p xs later in
    elim (cases_Bool (test x)) [
      | inl t ↦ elim (in_cons p x (filter test xs) (subst (λ z. is_in p z ≡ true) (filter-yes test x xs t) h)) [
        | inl same ↦ (subst (λ z. is_in p (z ∷ xs) ≡ true) (sym same) (in_head p xs), ap test (sym same) ∙ t)
        | inr later ↦ (let r = deeper later in (in_tail p x xs r.0, r.1))
      ]
      | inr f ↦ (let r = deeper (subst (λ z. is_in p z ≡ true) (filter-no test x xs f) h) in (in_tail p x xs r.0, r.1))
    ]

-- ---- ranges

pub in-range : (a n p : ℕ) → a ≤ p → p < a + n → is_in p (range_with_len a n) ≡ true
in-range a zero p low high = absurd (omega arith)
in-range a (suc n) p low high =
    let deeper = λ (more : a + 1 ≤ p). in-range (a + 1) n p more (omega arith) in
    elim (cases_lt a p) [
      | inl lt ↦ in_tail p a (range_with_len (a + 1) n) (deeper (omega arith))
      | inr ge ↦ (let same : a ≡ p = omega arith in subst (λ z. is_in p (z ∷ range_with_len (a + 1) n) ≡ true) (sym same) (in_head p (range_with_len (a + 1) n)))
    ]

pub range-in : (a n p : ℕ) → is_in p (range_with_len a n) ≡ true → p < a + n
range-in a zero p h = absurd (false≢true h)
range-in a (suc n) p h =
    let deeper = λ (later : is_in p (range_with_len (a + 1) n) ≡ true). range-in (a + 1) n p later in
    elim (in_cons p a (range_with_len (a + 1) n) h) [ inl same ↦ omega (arith, same) | inr later ↦ omega (arith, deeper later) ]

-- ---- before

has-flat_map : (f : Ref → List ℕ) (p : ℕ) (name : Ref) (xs : List Ref) → has name xs ≡ true → is_in p (f name) ≡ true → is_in p (flat_map f xs) ≡ true
has-flat_map f p name [] h here = absurd (false≢true h)
has-flat_map f p name (x ∷ xs) h here =
    let deeper = λ (later : has name xs ≡ true). has-flat_map f p name xs later here in
    elim (has-cons name x xs h) [
      | inl same ↦ in_left p (f x) (flat_map f xs) (subst (λ z. is_in p (f z) ≡ true) same here)
      | inr later ↦ in_right p (f x) (flat_map f xs) (deeper later)
    ]

flat_map-has : (f : Ref → List ℕ) (p : ℕ) (xs : List Ref) → is_in p (flat_map f xs) ≡ true → (name : Ref) × (has name xs ≡ true) × (is_in p (f name) ≡ true)
flat_map-has f p [] h = absurd (false≢true h)
flat_map-has f p (x ∷ xs) h =
    let deeper = λ (later : is_in p (flat_map f xs) ≡ true). flat_map-has f p xs later in
    elim (in_parts p (f x) (flat_map f xs) h) [
      | inl now ↦ (x, has-head x x xs refl, now)
      | inr later ↦ (let r = deeper later in (r.0, or_right (same_ref r.0 x) _ r.1, r.2))
    ]

reads_within : (list : List Reads) (t : ℕ) (name : Ref) → has name (reads_of list t) ≡ true → t < length list
reads_within list t name h = elim (cases_lt t (length list)) [
  | inl lt ↦ lt
  | inr past ↦ absurd (false≢true (subst (λ z. has name z ≡ true) (get_or_past (map (λ s. s.reads) list) t [] (omega (arith, length-map list (λ (s : Reads). s.reads)))) h))
]

sets_within : (list : List Reads) (t : ℕ) (name : Ref) → has name (sets_of list t) ≡ true → t < length list
sets_within list t name h = elim (cases_lt t (length list)) [
  | inl lt ↦ lt
  | inr past ↦ absurd (false≢true (subst (λ z. has name z ≡ true) (get_or_past (map (λ s. s.sets) list) t [] (omega (arith, length-map list (λ (s : Reads). s.sets)))) h))
]

pub before-there : (list : List Reads) (s t : ℕ) → Before list s t → (t < length list) × (is_in s (before_of list t) ≡ true)
before-there list s t b = (
  reads_within list t b.name b.is_read,
  has-flat_map (setters_of list) s b.name (needs_of list t) (has-filter (λ name. not (has name (sets_of list t))) b.name (reads_of list t) b.is_read (not_from_false _ b.is_foreign))
      (in-filter (λ x. has b.name (sets_of list x)) s (range_with_len 0 (length list)) (in-range 0 (length list) s (omega arith) (omega (arith, sets_within list s b.name b.is_set))) b.is_set),
)

pub before-back : (list : List Reads) (s t : ℕ) → (t < length list) × (is_in s (before_of list t) ≡ true) → Before list s t
before-back list s t h =
    let n = flat_map-has (setters_of list) s (needs_of list t) h.1 in
    let need = filter-has (λ name. not (has name (sets_of list t))) n.0 (reads_of list t) n.1 in
    record {
      name = n.0;
      is_read = need.0;
      is_foreign = not-true _ need.1;
      is_set = (filter-in (λ x. has n.0 (sets_of list x)) s (range_with_len 0 (length list)) n.2).1;
    }

pub before-below : (list : List Reads) (t s : ℕ) → is_in s (before_of list t) ≡ true → s < length list
before-below list t s h =
    let n = flat_map-has (setters_of list) s (needs_of list t) h in
    omega (arith, range-in 0 (length list) s (filter-in (λ x. has n.0 (sets_of list x)) s (range_with_len 0 (length list)) n.2).0)
