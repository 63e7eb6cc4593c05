-- What names stand for at the top of a file: two names stand for two variables or constants, and what is declared or imported is found by its name.
use Rattle.std.proofs.Common.{◌≡◌, ℕ, suc, Bool, true, false, cond, List, [], ◌∷◌, ◌++◌, Some, map, option_map, find, refl, sym, ap, ◌∙◌}
use Rattle.std.specs.Prelude.{◌||◌, if◌then◌else◌}
use Rattle.std.proofs.lemmas.Bool.{true≢false, eqb-true, eq-eqb}
use Rattle.std.proofs.lemmas.Option.{same_Some}
use Rattle.sv_ast.specs.declared.files.SourceFile.{SourceFile}
use Rattle.sv_ast.specs.declared.names.Named.{Named}
use Rattle.sv_ast.specs.declared.names.Ref.{Ref}
use Rattle.sv_ast.specs.declared.names.Ref.TheVariants.{Plain}
use Rattle.sv_ast.specs.declared.script_tree.Stmt.{Stmt}
use Rattle.sv_base.specs.Names.{Table}
use Rattle.sv_base.specs.declared.names.Name.{Name}
use Rattle.sv_code.specs.declared.known.Known.{Known}
use Rattle.sv_code.specs.declared.known.Known.TheVariants as known
use Rattle.sv_compile.specs.Constants.{same_name, numbered_from}
use Rattle.sv_compile.specs.TopLevel.{cells_from, given_name}
use Rattle.sv_compile.proofs.Topmost.{either, known_all, IsNameOf, IsForeign, Others, Known_all}
use Rattle.sv_lower.specs.Tops.{known_in}
use Rattle.sv_names.specs.Distinct.{same_ref, has}
use Rattle.sv_names.specs.Uses.{named}
use Rattle.sv_subscribed.specs.Apart.{IsOwn}

-- ---- what is declared as a constant or imported, with its name

abbrev TakenBy : {A B : Type 0} → (A → B) → Type 0
TakenBy {A} {B} f = A

abbrev pub Given : Type 0
Given = TakenBy given_name

-- ---- what stands for one

-- two names stand for one variable or constant only where they are one
pub one_name : (cells : List Ref) (constants : List Named) (a b : Ref) (k : Known) → IsOwn k → IsNameOf cells constants a k → IsNameOf cells constants b k → a ≡ b
one_name cells constants a b (known.Cell n) own p q = same_Some a b (sym p ∙ q)
one_name cells constants a b (known.Constant n) own p q = same_Some a b (sym p ∙ q)
one_name cells constants a b (known.Local x) own p q = absurd own
one_name cells constants a b (known.Export file n) own p q = absurd own
one_name cells constants a b (known.Life l) own p q = absurd own
one_name cells constants a b known.Writable own p q = absurd own
one_name cells constants a b known.Derived own p q = absurd own
one_name cells constants a b (known.BuiltIn x) own p q = absurd own

pub not_own : (k : Known) → IsForeign k → IsOwn k → ⊥
not_own (known.Cell n) h own = h
not_own (known.Constant n) h own = h
not_own (known.Local x) h own = h
not_own (known.Export file n) h own = own
not_own (known.Life l) h own = own
not_own known.Writable h own = own
not_own known.Derived h own = own
not_own (known.BuiltIn x) h own = own

-- ---- what is known at the top of a file

module _ (table : Table) (files : List SourceFile) (cells : List Ref) (stmts : List Stmt) where
  cell-among : (n : ℕ) (own : List Ref) (more : List (Ref × Known)) (name : Ref) → has name own ≡ true → (m : ℕ) × (known_in (cells_from n own ++ more) name ≡ Some (known.Cell m))
  cell-among n [] more name h = absurd (true≢false (sym h))
  cell-among n (c ∷ own) more name h = by (same_ref name c) (λ e. cell-among (suc n) own more name e) h
    where
      by : (b : Bool) → (has name own ≡ true → (m : ℕ) × (known_in (cells_from (suc n) own ++ more) name ≡ Some (known.Cell m))) → (b || has name own) ≡ true → (m : ℕ) × ((if b then Some (known.Cell n) else known_in (cells_from (suc n) own ++ more) name) ≡ Some (known.Cell m))
      by true later e = (n, refl)
      by false later e = later e

  -- a name of a cell stands for one
  pub record StandsForCell (name : Ref) : Type 0 where
    pub cell : ℕ
    pub is : known_in (Known_all table files cells stmts) name ≡ Some (known.Cell cell)

  pub cell-known : (name : Ref) → has name cells ≡ true → StandsForCell name
  cell-known name h = let found = cell-among 0 cells (Others table files cells stmts) name h in record { cell = found.0; is = known_all [] (cells_from 0 cells ++ Others table files cells stmts) name ∙ found.1 }

  no-cell : (n : ℕ) (own : List Ref) (more : List (Ref × Known)) (name : Ref) → has name own ≡ false → known_in (cells_from n own ++ more) name ≡ known_in more name
  no-cell n [] more name h = refl
  no-cell n (c ∷ own) more name h = by (same_ref name c) (λ e. no-cell (suc n) own more name e) h
    where
      by : (b : Bool) → (has name own ≡ false → known_in (cells_from (suc n) own ++ more) name ≡ known_in more name) → (b || has name own) ≡ false → (if b then Some (known.Cell n) else known_in (cells_from (suc n) own ++ more) name) ≡ known_in more name
      by true later e = absurd (true≢false e)
      by false later e = later e

  -- another stands for what is declared, imported or built in
  pub other-known : (name : Ref) → has name cells ≡ false → known_in (Known_all table files cells stmts) name ≡ known_in (Others table files cells stmts) name
  other-known name h = known_all [] (cells_from 0 cells ++ Others table files cells stmts) name ∙ no-cell 0 cells (Others table files cells stmts) name h

-- ---- what is given under a name

pub same_sym : (a b : Name) → same_name a b ≡ same_ref (Plain b) (Plain a)
same_sym a b = by (same_name a b) (same_ref (Plain b) (Plain a)) refl refl
  where
    by : (x y : Bool) → same_name a b ≡ x → same_ref (Plain b) (Plain a) ≡ y → x ≡ y
    by true true p q = refl
    by false false p q = refl
    by true false p q = sym (sym q ∙ eq-eqb b.0 a.0 (sym (eqb-true a.0 b.0 p)))
    by false true p q = sym p ∙ eq-eqb a.0 b.0 (sym (eqb-true b.0 a.0 q))

-- what a name stands for among what is given and more
pub given-known : (given : List Given) (more : List (Ref × Known)) (name : Name) → known_in (map given_name given ++ more) (Plain name) ≡ either (option_map (λ (g : Given). g.known) (find (λ (g : Given). same_name g.named.name name) given)) (known_in more (Plain name))
given-known [] more name = refl
given-known (g ∷ given) more name = ap (λ b. if b then Some g.known else known_in (map given_name given ++ more) (Plain name)) (sym (same_sym g.named.name name)) ∙ by (same_name g.named.name name) (given-known given more name)
  where
    by : (b : Bool) → known_in (map given_name given ++ more) (Plain name) ≡ either (option_map (λ (g : Given). g.known) (find (λ (g : Given). same_name g.named.name name) given)) (known_in more (Plain name)) → (if b then Some g.known else known_in (map given_name given ++ more) (Plain name))
        ≡ either (option_map (λ (g : Given). g.known) (cond b (Some g) (find (λ (g : Given). same_name g.named.name name) given))) (known_in more (Plain name))
    by true later = refl
    by false later = later

-- a constant's name stands for a constant, where no cell has it
pub constant-known : (n : ℕ) (names : List Named) (given : List Given) (more : List (Ref × Known)) (name : Ref) → has name (map named names) ≡ true
    → (m : ℕ) × (known_in (map given_name (numbered_from n names ++ given) ++ more) name ≡ Some (known.Constant m))
constant-known n [] given more name h = absurd (true≢false (sym h))
constant-known n (c ∷ names) given more name h = by (same_ref name (named c)) (λ e. constant-known (suc n) names given more name e) h
  where
    by : (b : Bool) → (has name (map named names) ≡ true → (m : ℕ) × (known_in (map given_name (numbered_from (suc n) names ++ given) ++ more) name ≡ Some (known.Constant m))) → (b || has name (map named names)) ≡ true
        → (m : ℕ) × ((if b then Some (known.Constant n) else known_in (map given_name (numbered_from (suc n) names ++ given) ++ more) name) ≡ Some (known.Constant m))
    by true later e = (n, refl)
    by false later e = later e
