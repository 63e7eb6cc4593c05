-- What scopes hide.
use Rattle.std.proofs.Common.{◌≡◌, Bool, true, false, List, [], ◌∷◌, ap, sym, subst, inl, inr, refl}
use Rattle.std.specs.Prelude.{not, ◌&&◌, ◌||◌}
use Rattle.std.specs.List.{list_any}
use Rattle.std.proofs.lemmas.Bool.{cases_Bool, or_left, or_right}
use Rattle.std.proofs.lemmas.Map.Views.{any-filter_same}
use Rattle.sv_ast.specs.declared.names.Ref.{Ref}
use Rattle.sv_names.specs.Distinct.{same_ref, has}
use Rattle.sv_names.proofs.Same.{same_ref-true, has-head, has-cons}
use Rattle.sv_purity.specs.declared.scope.Known.{Known}
use Rattle.sv_purity.specs.Pure.{without, hiding, is_callable}

-- what is seen is not hidden
pub has_without : (name : Ref) (names all : List Ref) → has name (without names all) ≡ (not (has name names) && has name all)
has_without name names all =
    any-filter_same (same_ref name) (λ k. not (has k names)) (not (has name names)) (λ k e. ap (λ n. not (has n names)) (sym (same_ref-true name k e))) all

together : (seen one two : Bool) → ((seen && one) || (seen && two)) ≡ (seen && (one || two))
together true one two = refl
together false one two = refl

-- what may be called is not hidden
pub is_callable_hiding : (name : Ref) (names : List Ref) (known : Known) → is_callable (hiding names known) name ≡ (not (has name names) && is_callable known name)
is_callable_hiding name names known =
    rw (has_without name names known.functions, has_without name names known.conversions)
    (together (not (has name names)) (has name known.functions) (has name known.conversions))

-- a name that is declared and passes is found
found : (p : Ref → Bool) (name : Ref) (names : List Ref) → has name names ≡ true → p name ≡ true → list_any p names ≡ true
found p name [] own passes = absurd (cc)
found p name (n ∷ names) own passes =
    elim (has-cons name n names own) [ inl e ↦ or_left _ _ (subst (λ z. p z ≡ true) e passes) | inr more ↦ or_right _ _ (found p name names more passes) ]

-- where no declared name passes, none of some that pass is hidden
all_kept : (p : Ref → Bool) (names all : List Ref) → list_any p names ≡ false → ((name : Ref) → has name all ≡ true → p name ≡ true) → without names all ≡ all
all_kept p names [] none passes = refl
all_kept p names (k ∷ all) none passes =
    let here : p k ≡ true = passes k (has-head k k all refl) in
    let rest : without names all ≡ all = all_kept p names all none (λ name h. passes name (or_right _ _ h)) in
    elim (cases_Bool (has k names)) [
      | inl own ↦ let both : list_any p names ≡ true = found p k names own here in absurd (cc)
      | inr other ↦ rw other (ap (λ z. k ∷ z) rest)
    ]

-- a scope that declares nothing that is known hides nothing
pub hiding_none : (names : List Ref) (known : Known) → list_any (is_callable known) names ≡ false → hiding names known ≡ known
hiding_none names known none =
    let functions = all_kept (is_callable known) names known.functions none (λ name h. or_left _ _ h) in
    let conversions = all_kept (is_callable known) names known.conversions none (λ name h. or_right _ _ h) in
    λ i. record { functions = functions i; conversions = conversions i }
