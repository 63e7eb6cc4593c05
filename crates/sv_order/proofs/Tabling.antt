-- The table of the names that some statement assigns.
use Rattle.std.proofs.Common.{◌≡◌, ℕ, zero, suc, ◌+◌, ◌<◌, ◌≤◌, Bool, true, cond, List, [], ◌∷◌, ◌++◌, length, take, get_or, refl, sym, ap, ◌∙◌, inl, inr, ◌⊎◌, subst, arith}
use Rattle.std.specs.Prelude.{◌||◌}
use Rattle.std.specs.List.{list_any}
use Rattle.std.proofs.lemmas.Bool.{cases_Bool, cases_eq, false≢true, or_cases, or_left, or_right}
use Rattle.std.proofs.lemmas.List.{take_more, take_all, length-take-le}
use Rattle.indexmap.specs.IndexSet.{insert_key}
use Rattle.sv_ast.specs.declared.names.Ref.{Ref}
use Rattle.sv_ast.specs.declared.names.Ref.TheVariants.{Plain, Store}
use Rattle.sv_ast.specs.contracts.names.RefPartialEq.TheImpl as ref_impl
use Rattle.sv_order.specs.declared.reads.Reads.{Reads}
use Rattle.sv_names.specs.Distinct.{same_ref, has}
use Rattle.sv_order.specs.ReactiveOrder.{sets_of}
use Rattle.sv_order.specs.Points.{Keeps, KnowsAll}
use Rattle.sv_names.proofs.Same.{has-append, has-cons, has-head}

-- the table's test of names
abbrev pub ref_eq : Ref → Ref → Bool
ref_eq = (ref_impl.ghosts).eq

ref_eq-same : (a b : Ref) → ref_eq a b ≡ same_ref a b
ref_eq-same (Plain a) (Plain b) = refl
ref_eq-same (Plain a) (Store b) = refl
ref_eq-same (Store a) (Plain b) = refl
ref_eq-same (Store a) (Store b) = refl

any-same : (p q : Ref → Bool) → ((x : Ref) → p x ≡ q x) → (xs : List Ref) → list_any p xs ≡ list_any q xs
any-same p q same [] = refl
any-same p q same (x ∷ xs) = ap (λ b. b || list_any p xs) (same x) ∙ ap (λ b. q x || b) (any-same p q same xs)

pub keeps-none : (names : List Ref) → Keeps names [] names
keeps-none names = record { keeps = λ name h. h; adds = λ name h. absurd (false≢true h) }

insert-keeps : (x name : Ref) (names : List Ref) → has name names ≡ true → has name (insert_key same_ref names x) ≡ true
insert-keeps x name names h = elim (cases_Bool (has x names)) [
  | inl old ↦ ap (λ b. has name (cond b names (names ++ x ∷ []))) old ∙ h
  | inr new ↦ ap (λ b. has name (cond b names (names ++ x ∷ []))) new ∙ (has-append name names (x ∷ []) ∙ or_left _ _ h)
]

insert-adds : (x : Ref) (names : List Ref) → has x (insert_key same_ref names x) ≡ true
insert-adds x names = elim (cases_Bool (has x names)) [
  | inl old ↦ ap (λ b. has x (cond b names (names ++ x ∷ []))) old ∙ old
  | inr new ↦ ap (λ b. has x (cond b names (names ++ x ∷ []))) new ∙ (has-append x names (x ∷ []) ∙ or_right (has x names) _ (has-head x x [] refl))
]

-- one more name is added
pub keeps-more : (old more now new : List Ref) (i : ℕ) (d : Ref) → i < length more → Keeps old (take i more) now → new ≡ insert_key ref_eq now (get_or more i d) → Keeps old (take (i + 1) more) new
keeps-more old more now new i d within k inserted =
    let x = get_or more i d in
    let e : new ≡ insert_key same_ref now x = inserted ∙ ap (λ b. cond b now (now ++ x ∷ [])) (any-same (ref_eq x) (same_ref x) (ref_eq-same x) now) in
    let whole : take (i + 1) more ≡ take i more ++ x ∷ [] = take_more more i d within in
    record {
      keeps = λ name h. ap (has name) e ∙ insert-keeps x name now (k.keeps name h);
      adds = λ name h. elim (or_cases _ _ (sym (ap (has name) whole ∙ has-append name (take i more) (x ∷ [])) ∙ h)) [
        | inl before ↦ ap (has name) e ∙ insert-keeps x name now (k.adds name before)
        | inr last ↦ elim (has-cons name x [] last) [
          | inl same ↦ subst (λ z. has z new ≡ true) (sym same) (ap (has x) e ∙ insert-adds x now)
          | inr no_one ↦ absurd (false≢true no_one)
        ]
      ];
    }

pub keeps-all : (old more new : List Ref) (i : ℕ) → length more ≤ i → Keeps old (take i more) new → Keeps old more new
keeps-all old more new i all k = subst (λ z. Keeps old z new) (take_all i more all) k

pub knows-none : (names : List Ref) → KnowsAll [] names
knows-none names = record { knows = λ s name h. absurd (false≢true h) }

-- what the statements so far assign
pub sets-take : (list : List Reads) (i : ℕ) (x : Reads) (s : ℕ) → i < length list → x ≡ get_or list i x → ((s ≡ i) × (sets_of (take (i + 1) list) s ≡ x.sets)) ⊎ ((s ≡ i → ⊥) × (sets_of (take (i + 1) list) s ≡ sets_of (take i list) s))
sets-take list i x s within is =
    let front = take i list in
    let size : length front ≡ i = length-take-le i list (omega arith) in
    let whole : take (i + 1) list ≡ front ++ x ∷ [] = take_more list i x within ∙ ap (λ z. front ++ z ∷ []) (sym is) in
    elim (cases_eq s i) [
      | inl same ↦ inl (same, ap (λ z. sets_of z s) whole ∙ last front s (size ∙ sym same))
      | inr other ↦ inr (other, ap (λ z. sets_of z s) whole ∙ apart front s (λ e. other (sym e ∙ size)))
    ]
  where
    last : (front : List Reads) (s : ℕ) → length front ≡ s → sets_of (front ++ x ∷ []) s ≡ x.sets
    last [] zero e = refl
    last [] (suc s) e = absurd (omega (arith, e))
    last (y ∷ front) zero e = absurd (omega (arith, e))
    last (y ∷ front) (suc s) e = last front s (omega (arith, e))

    apart : (front : List Reads) (s : ℕ) → (length front ≡ s → ⊥) → sets_of (front ++ x ∷ []) s ≡ sets_of front s
    apart [] zero other = absurd (other refl)
    apart [] (suc s) other = refl
    apart (y ∷ front) zero other = refl
    apart (y ∷ front) (suc s) other = apart front s (λ e. other (omega (arith, e)))

pub knows-more : (list : List Reads) (names names' more : List Ref) (i : ℕ) (x : Reads) → i < length list → x ≡ get_or list i x → KnowsAll (take i list) names → more ≡ x.sets → Keeps names more names'
    → KnowsAll (take (i + 1) list) names'
knows-more list names names' more i x within is k e adds = record {
  knows = λ s name h. elim (sets-take list i x s within is) [
    | inl last ↦ adds.adds name (ap (has name) e ∙ (sym (ap (has name) last.1) ∙ h))
    | inr earlier ↦ adds.keeps name (k.knows s name (sym (ap (has name) earlier.1) ∙ h))
  ];
}

pub knows-all : (list : List Reads) (names : List Ref) (i : ℕ) → length list ≤ i → KnowsAll (take i list) names → KnowsAll list names
knows-all list names i all k = subst (λ z. KnowsAll z names) (take_all i list all) k
