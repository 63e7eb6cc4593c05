-- Names that are one, and names in lists.
use Rattle.std.proofs.Common.{◌≡◌, Bool, true, false, cond, List, [], ◌∷◌, ◌++◌, refl, sym, ap, ◌∙◌, inl, inr, ◌⊎◌, subst}
use Rattle.std.specs.Prelude.{◌||◌}
use Rattle.std.proofs.lemmas.Bool.{cases_Bool, eqb-true, eq-eqb, or_cases, or_left}
use Rattle.std.proofs.lemmas.List.Folds.{list_any-append}
use Rattle.sv_ast.specs.declared.names.Ref.{Ref}
use Rattle.sv_ast.specs.declared.names.Ref.TheVariants.{Plain, Store}
use Rattle.sv_names.specs.Distinct.{same_ref, has, with_name, with_names, firsts}

pub same_ref-true : (a b : Ref) → same_ref a b ≡ true → a ≡ b
same_ref-true (Plain a) (Plain b) e = let n : a.0 ≡ b.0 = eqb-true a.0 b.0 e in ap (λ z. Plain (record { 0 = z })) n
same_ref-true (Plain a) (Store b) e = cc
same_ref-true (Store a) (Plain b) e = cc
same_ref-true (Store a) (Store b) e = let n : a.0 ≡ b.0 = eqb-true a.0 b.0 e in ap (λ z. Store (record { 0 = z })) n

pub same_ref-self : (a : Ref) → same_ref a a ≡ true
same_ref-self (Plain a) = eq-eqb a.0 a.0 refl
same_ref-self (Store a) = eq-eqb a.0 a.0 refl

pub has-append : (name : Ref) (xs ys : List Ref) → has name (xs ++ ys) ≡ (has name xs || has name ys)
has-append name xs ys = list_any-append (same_ref name) xs ys

pub has-head : (name x : Ref) (xs : List Ref) → name ≡ x → has name (x ∷ xs) ≡ true
has-head name x xs e = or_left _ _ (subst (λ z. same_ref name z ≡ true) e (same_ref-self name))

pub has-cons : (name x : Ref) (xs : List Ref) → has name (x ∷ xs) ≡ true → (name ≡ x) ⊎ (has name xs ≡ true)
has-cons name x xs h = elim (or_cases (same_ref name x) (has name xs) h) [ inl e ↦ inl (same_ref-true name x e) | inr e ↦ inr e ]

or_false : (b : Bool) → (b || false) ≡ b
or_false true = refl
or_false false = refl

regroup : (a b c : Bool) → ((a || (b || false)) || c) ≡ (a || (b || c))
regroup true b c = refl
regroup false true c = refl
regroup false false c = refl

-- a name is known again where it is the same as one that is known
has-same : (name x : Ref) (names : List Ref) → has x names ≡ true → has name names ≡ (has name names || has name (x ∷ []))
has-same name x names known = by (cases_Bool (same_ref name x))
  where
    by : (same_ref name x ≡ true) ⊎ (same_ref name x ≡ false) → has name names ≡ (has name names || has name (x ∷ []))
    by (inl e) = let h : has name names ≡ true = subst (λ z. has z names ≡ true) (sym (same_ref-true name x e)) known in h ∙ sym (or_left _ _ h)
    by (inr e) = sym (ap (λ b. has name names || (b || false)) e ∙ or_false (has name names))

-- a name that is put behind others is among them, and no other is new
pub has-with_name : (name x : Ref) (names : List Ref) → has name (with_name names x) ≡ (has name names || has name (x ∷ []))
has-with_name name x names = by (has x names) refl
  where
    by : (b : Bool) → has x names ≡ b → has name (cond b names (names ++ x ∷ [])) ≡ (has name names || has name (x ∷ []))
    by true known = has-same name x names known
    by false known = has-append name names (x ∷ [])

pub has-with_names : (name : Ref) (names more : List Ref) → has name (with_names names more) ≡ (has name names || has name more)
has-with_names name names [] = sym (or_false (has name names))
has-with_names name names (x ∷ more) =
    has-with_names name (with_name names x) more ∙ ap (λ b. b || has name more) (has-with_name name x names)
    ∙ regroup (has name names) (same_ref name x) (has name more)

-- each once, they are the same names
pub has-firsts : (name : Ref) (names : List Ref) → has name (firsts names) ≡ has name names
has-firsts name names = has-with_names name [] names
