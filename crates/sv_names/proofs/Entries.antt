-- Names and the numbers that they stand for, as a map keeps them.
use Rattle.std.proofs.Common.{◌≡◌, ℕ, Bool, true, false, cond, List, [], ◌∷◌, ◌++◌, Some, refl, sym, ap, ◌∙◌}
use Rattle.std.specs.Prelude.{is_some}
use Rattle.std.specs.Map.{lookup}
use Rattle.indexmap.specs.IndexMap.{insert_entry}
use Rattle.sv_ast.specs.contracts.names.RefPartialEq.TheImpl as ref_impl
use Rattle.sv_ast.specs.declared.names.Ref.{Ref}
use Rattle.sv_ast.specs.declared.names.Ref.TheVariants.{Plain, Store}
use Rattle.sv_names.specs.Distinct.{same_ref}
use Rattle.sv_names.specs.NameMap.{Entries, number_of, with_entry, with_entries}

pub with_entries_append : (entries first second : Entries) → with_entries entries (first ++ second) ≡ with_entries (with_entries entries first) second
with_entries_append entries [] second = refl
with_entries_append entries (k ∷ first) second = with_entries_append (with_entry entries k) first second

-- the test of names that a map makes
abbrev pub ref_eq : Ref → Ref → Bool
ref_eq = (ref_impl.ghosts).eq

ref_eq-same : (a b : Ref) → ref_eq a b ≡ same_ref a b
ref_eq-same (Plain a) (Plain b) = refl
ref_eq-same (Plain a) (Store b) = refl
ref_eq-same (Store a) (Plain b) = refl
ref_eq-same (Store a) (Store b) = refl

-- a look-up finds the number of a name
pub number_found : (name : Ref) (entries : Entries) → lookup (ref_eq name) entries ≡ number_of entries name
number_found name [] = refl
number_found name (k ∷ entries) =
    ap (λ b. cond b (Some k.1) (lookup (ref_eq name) entries)) (ref_eq-same name k.0) ∙ ap (λ o. cond (same_ref name k.0) (Some k.1) o) (number_found name entries)

insert_new : (entries : Entries) (name : Ref) (number : ℕ) → is_some (lookup (ref_eq name) entries) ≡ false → insert_entry ref_eq entries name number ≡ entries ++ (name, number) ∷ []
insert_new [] name number h = refl
insert_new (k ∷ entries) name number h = by (ref_eq name k.0) h (λ g. insert_new entries name number g)
  where
    by : (b : Bool) → is_some (cond b (Some k.1) (lookup (ref_eq name) entries)) ≡ false
        → (is_some (lookup (ref_eq name) entries) ≡ false → insert_entry ref_eq entries name number ≡ entries ++ (name, number) ∷ [])
        → cond b ((k.0, number) ∷ entries) (k ∷ insert_entry ref_eq entries name number) ≡ k ∷ (entries ++ (name, number) ∷ [])
    by true h rest = absurd (cc)
    by false h rest = ap (λ z. k ∷ z) (rest h)

with_entry_is : (entries : Entries) (name : Ref) (number : ℕ) (b : Bool) → is_some (lookup (ref_eq name) entries) ≡ b → with_entry entries (name, number) ≡ cond b entries (entries ++ (name, number) ∷ [])
with_entry_is entries name number b h = ap (λ z. cond z entries (entries ++ (name, number) ∷ [])) (ap is_some (sym (number_found name entries)) ∙ h)

-- a name that stands for no number yet goes last
pub entry_new : (entries : Entries) (name : Ref) (number : ℕ) → is_some (lookup (ref_eq name) entries) ≡ false → insert_entry ref_eq entries name number ≡ with_entry entries (name, number)
entry_new entries name number h = insert_new entries name number h ∙ sym (with_entry_is entries name number false h)

-- and with another all is as it was
pub entry_kept : (entries : Entries) (name : Ref) (number : ℕ) → is_some (lookup (ref_eq name) entries) ≡ true → entries ≡ with_entry entries (name, number)
entry_kept entries name number h = sym (with_entry_is entries name number true h)
