-- Names with what they stand for, in a map.
use Rattle.std.proofs.Common.{◌≡◌, Bool, true, false, cond, List, [], ◌∷◌, ◌++◌, Some, refl, sym, ap, ◌∙◌}
use Rattle.std.specs.Prelude.{is_some}
use Rattle.std.specs.Map.{lookup}
use Rattle.indexmap.specs.IndexMap.{insert_entry}
use Rattle.sv_ast.specs.contracts.names.RefPartialEq.TheImpl as ref_impl
use Rattle.sv_ast.specs.declared.names.Ref.{Ref}
use Rattle.sv_ast.specs.declared.names.Ref.TheVariants.{Plain, Store}
use Rattle.sv_base.specs.Names.{Table}
use Rattle.sv_code.specs.declared.known.Known.{Known}
use Rattle.sv_names.specs.Distinct.{same_ref}
use Rattle.sv_lower.specs.Tops.{Tops, known_in, with_known}
use Rattle.sv_lower.specs.declared.members.Word.{Word}

-- the test of names that a map makes
abbrev pub ref_eq : Ref → Ref → Bool
ref_eq = (ref_impl.ghosts).eq

ref_eq-same : (a b : Ref) → ref_eq a b ≡ same_ref a b
ref_eq-same (Plain a) (Plain b) = refl
ref_eq-same (Plain a) (Store b) = refl
ref_eq-same (Store a) (Plain b) = refl
ref_eq-same (Store a) (Store b) = refl

-- what a name stands for is what a look-up of it finds
pub lookup_known : (name : Ref) (known : List (Ref × Known)) → lookup (ref_eq name) known ≡ known_in known name
lookup_known name [] = refl
lookup_known name (k ∷ known) =
    ap (λ b. cond b (Some k.1) (lookup (ref_eq name) known)) (ref_eq-same name k.0) ∙ ap (λ o. cond (same_ref name k.0) (Some k.1) o) (lookup_known name known)

insert_new : (known : List (Ref × Known)) (name : Ref) (x : Known) → is_some (lookup (ref_eq name) known) ≡ false → insert_entry ref_eq known name x ≡ known ++ (name, x) ∷ []
insert_new [] name x h = refl
insert_new (k ∷ known) name x h = by (ref_eq name k.0) h (λ g. insert_new known name x g)
  where
    by : (b : Bool) → is_some (cond b (Some k.1) (lookup (ref_eq name) known)) ≡ false
        → (is_some (lookup (ref_eq name) known) ≡ false → insert_entry ref_eq known name x ≡ known ++ (name, x) ∷ [])
        → cond b ((k.0, x) ∷ known) (k ∷ insert_entry ref_eq known name x) ≡ k ∷ (known ++ (name, x) ∷ [])
    by true h rest = absurd (cc)
    by false h rest = ap (λ z. k ∷ z) (rest h)

with_known_is : (known : List (Ref × Known)) (name : Ref) (x : Known) (b : Bool) → is_some (lookup (ref_eq name) known) ≡ b → with_known known (name, x) ≡ cond b known (known ++ (name, x) ∷ [])
with_known_is known name x b h = ap (λ z. cond z known (known ++ (name, x) ∷ [])) (ap is_some (sym (lookup_known name known)) ∙ h)

-- a name that stands for nothing yet goes last
pub known_new : (known : List (Ref × Known)) (name : Ref) (x : Known) → is_some (lookup (ref_eq name) known) ≡ false → insert_entry ref_eq known name x ≡ with_known known (name, x)
known_new known name x h = insert_new known name x h ∙ sym (with_known_is known name x false h)

-- and with another all is as it was
pub known_kept : (known : List (Ref × Known)) (name : Ref) (x : Known) → is_some (lookup (ref_eq name) known) ≡ true → known ≡ with_known known (name, x)
known_kept known name x h = sym (with_known_is known name x true h)

abbrev pub tops_of : Table → List (Ref × Known) → List Word → Tops
tops_of names known words = record { names = names; known = known; words = words }

pub same_tops : (m n : Table) (a b : List (Ref × Known)) (v w : List Word) → m ≡ n → a ≡ b → v ≡ w → tops_of m a v ≡ tops_of n b w
same_tops m n a b v w d e f = ap (λ z. tops_of z a v) d ∙ ap (λ z. tops_of n z v) e ∙ ap (λ z. tops_of n b z) f
