-- At the top of a file each name that stands for a cell or a constant is that one's, and none stands for a local.
use Rattle.std.proofs.Common.{◌≡◌, ℕ, zero, suc, ◌+◌, Bool, true, false, List, [], ◌∷◌, ◌++◌, Option, None, Some, map, option_map, is_some, append-nil, append_assoc, refl, sym, ap, subst, ◌∙◌, arith}
use Rattle.std.specs.List.{filter_map, flat_map, cons_option}
use Rattle.std.specs.Prelude.{slice_get, if◌then◌else◌}
use Rattle.std.proofs.lemmas.Bool.{true≢false}
use Rattle.std.proofs.lemmas.Option.{none-some, same_Some}
use Rattle.sv_ast.specs.declared.files.SourceFile.{SourceFile}
use Rattle.sv_ast.specs.declared.names.Named.{Named}
use Rattle.sv_ast.specs.declared.names.Ref.{Ref}
use Rattle.sv_ast.specs.declared.names.Ref.TheVariants.{Plain}
use Rattle.sv_ast.specs.declared.script_tree.ImportName.{ImportName}
use Rattle.sv_ast.specs.declared.script_tree.Stmt.{Stmt}
use Rattle.sv_ast.specs.declared.script_tree.StmtKind.{StmtKind-F, out-StmtKind}
use Rattle.sv_base.specs.BuiltIn.{life_functions}
use Rattle.sv_base.specs.Names.{Table, is_text, is_one_of}
use Rattle.sv_base.specs.declared.built_in.TheConstants.{STRING, BOOLEAN, MATH, CONSOLE}
use Rattle.sv_base.specs.declared.names.Name.{Name}
use Rattle.sv_code.proofs.Each.{each_append}
use Rattle.sv_code.specs.Names.{Each}
use Rattle.sv_code.specs.declared.known.BuiltIn.{BuiltIn}
use Rattle.sv_code.specs.declared.known.BuiltIn.TheVariants as built_in
use Rattle.sv_code.specs.declared.known.Known.{Known}
use Rattle.sv_code.specs.declared.known.Known.TheVariants as known
use Rattle.sv_code.specs.declared.known.Life.{Life}
use Rattle.sv_compile.specs.Constants.{all_constants, numbered_from, life_among, place_in, export_at, import_of, spec_given, imported_layer, imported, givens}
use Rattle.sv_compile.specs.TopLevel.{cells_from, given_name, built, all_built, tops}
use Rattle.sv_compile.specs.declared.constants.Given.{Given}
use Rattle.sv_compile.specs.declared.imports.TheConstants.{LIVES}
use Rattle.sv_imports.specs.Imports.{StmtLayer}
use Rattle.sv_imports.specs.Language.{derived_functions, is_store_function}
use Rattle.sv_imports.specs.Unknown.{origin_of}
use Rattle.sv_imports.specs.declared.origin.Origin.{Origin}
use Rattle.sv_imports.specs.declared.origin.Origin.TheVariants as origin
use Rattle.sv_lower.specs.Tops.{known_in, with_known, with_all}
use Rattle.sv_names.proofs.Same.{same_ref-true}
use Rattle.sv_names.specs.Distinct.{same_ref}
use Rattle.sv_names.specs.Uses.{named}
use Rattle.sv_within.specs.Staying.{IsTopOf}

-- ---- looking up

-- the first of two that are found
abbrev pub either : {A : Type 0} → Option A → Option A → Option A
either None o = o
either (Some x) o = Some x

pub known_in-append : (ks more : List (Ref × Known)) (name : Ref) → known_in (ks ++ more) name ≡ either (known_in ks name) (known_in more name)
known_in-append [] more name = refl
known_in-append (k ∷ ks) more name = by (same_ref name k.0) (known_in-append ks more name)
  where
    by : (b : Bool) → known_in (ks ++ more) name ≡ either (known_in ks name) (known_in more name)
        → (if b then Some k.1 else known_in (ks ++ more) name) ≡ either (if b then Some k.1 else known_in ks name) (known_in more name)
    by true later = refl
    by false later = later

-- what is given a second time isn't found
second_none : (ks : List (Ref × Known)) (k : Ref × Known) (rest : Option Known) (name : Ref) → is_some (known_in ks k.0) ≡ true → either (known_in ks name) rest ≡ either (known_in ks name) (if same_ref name k.0 then Some k.1 else rest)
second_none ks k rest name some = by (known_in ks name) (same_ref name k.0) refl refl
  where
    by : (o : Option Known) (b : Bool) → known_in ks name ≡ o → same_ref name k.0 ≡ b → either o rest ≡ either o (if b then Some k.1 else rest)
    by (Some x) b e s = refl
    by None false e s = refl
    by None true e s = absurd (true≢false (sym some ∙ ap is_some (ap (known_in ks) (sym (same_ref-true name k.0 s)) ∙ e)))

-- a table that gives each name what it was given first finds what the list finds
pub known_all : (ks more : List (Ref × Known)) (name : Ref) → known_in (with_all ks more) name ≡ known_in (ks ++ more) name
known_all ks [] name = ap (λ l. known_in l name) (sym (append-nil ks))
known_all ks (k ∷ more) name = known_all (with_known ks k) more name ∙ by (is_some (known_in ks k.0)) refl
  where
    by : (b : Bool) → is_some (known_in ks k.0) ≡ b → known_in ((if b then ks else ks ++ k ∷ []) ++ more) name ≡ known_in (ks ++ k ∷ more) name
    by true e = known_in-append ks more name ∙ (second_none ks k (known_in more name) name e ∙ sym (known_in-append ks (k ∷ more) name))
    by false e = ap (λ l. known_in l name) (append_assoc ks (k ∷ []) more)

-- what is so of all that is given is so of what is found
pub found-each : (P : Ref × Known → Type 0) (ks : List (Ref × Known)) (name : Ref) (k : Known) → Each P ks → known_in ks name ≡ Some k → P (name, k)
found-each P [] name k h is = absurd (none-some k is)
found-each P (p ∷ ks) name k h is = by (same_ref name p.0) refl (λ e. found-each P ks name k h.1 e) is
  where
    by : (b : Bool) → same_ref name p.0 ≡ b → (known_in ks name ≡ Some k → P (name, k)) → (if b then Some p.1 else known_in ks name) ≡ Some k → P (name, k)
    by true same later e = subst (λ n. P (n, k)) (sym (same_ref-true name p.0 same)) (subst (λ x. P (p.0, x)) (same_Some p.1 k e) h.0)
    by false same later e = later e

-- ---- what a name may stand for, where there are some cells and constants

abbrev pub IsNameOf : List Ref → List Named → Ref → Known → Type 0
IsNameOf cells constants name (known.Cell n) = slice_get cells n ≡ Some name
IsNameOf cells constants name (known.Constant n) = slice_get (map named constants) n ≡ Some name
IsNameOf cells constants name (known.Local x) = ⊥
IsNameOf cells constants name _ = Unit {0}

-- ---- what is imported is neither a variable nor a constant

abbrev pub IsForeign : Known → Type 0
IsForeign (known.Cell n) = ⊥
IsForeign (known.Constant n) = ⊥
IsForeign (known.Local x) = ⊥
IsForeign _ = Unit {0}

foreign_name : (cells : List Ref) (constants : List Named) (name : Ref) (k : Known) → IsForeign k → IsNameOf cells constants name k
foreign_name cells constants name (known.Cell n) h = absurd h
foreign_name cells constants name (known.Constant n) h = absurd h
foreign_name cells constants name (known.Local x) h = h
foreign_name cells constants name (known.Export file n) h = tt
foreign_name cells constants name (known.Life l) h = tt
foreign_name cells constants name known.Writable h = tt
foreign_name cells constants name known.Derived h = tt
foreign_name cells constants name (known.BuiltIn x) h = tt

life_foreign : (table : Table) (texts : List (List ℕ)) (lives : List Life) (name : Name) (k : Known) → life_among table texts lives name ≡ Some k → IsForeign k
life_foreign table [] lives name k is = absurd (none-some k is)
life_foreign table (text ∷ texts) [] name k is = absurd (none-some k is)
life_foreign table (text ∷ texts) (life ∷ lives) name k is = by (is_text table text name) (λ e. life_foreign table texts lives name k e) is
  where
    by : (b : Bool) → (life_among table texts lives name ≡ Some k → IsForeign k) → (if b then Some (known.Life life) else life_among table texts lives name) ≡ Some k → IsForeign k
    by true later e = subst IsForeign (same_Some (known.Life life) k e) tt
    by false later e = later e

store_foreign : (d b : Bool) (k : Known) → (if d then Some known.Derived else (if b then Some known.Writable else None)) ≡ Some k → IsForeign k
store_foreign true b k is = subst IsForeign (same_Some known.Derived k is) tt
store_foreign false true k is = subst IsForeign (same_Some known.Writable k is) tt
store_foreign false false k is = absurd (none-some k is)

placed_foreign : (file : ℕ) (place : Option ℕ) (k : Known) → option_map (known.Export file) place ≡ Some k → IsForeign k
placed_foreign file None k is = absurd (none-some k is)
placed_foreign file (Some n) k is = subst IsForeign (same_Some (known.Export file n) k is) tt

export_foreign : (file : ℕ) (o : Option SourceFile) (name : Name) (k : Known) → export_at file o name ≡ Some k → IsForeign k
export_foreign file None name k is = absurd (none-some k is)
export_foreign file (Some source) name k is = placed_foreign file (place_in source.tree name) k is

import_foreign : (table : Table) (files : List SourceFile) (from : Origin) (name : Name) (k : Known) → import_of table files from name ≡ Some k → IsForeign k
import_foreign table files origin.Life name k is = life_foreign table life_functions LIVES name k is
import_foreign table files origin.Stores name k is = store_foreign (is_one_of table derived_functions name) (is_store_function table name) k is
import_foreign table files (origin.File from) name k is = export_foreign from (slice_get files from) name k is
import_foreign table files origin.Nowhere name k is = absurd (none-some k is)

-- ---- what is given by a declaration or an import

module _ (cells : List Ref) (constants : List Named) where
  abbrev pub GivenIsNamed : Given → Type 0
  GivenIsNamed g = IsNameOf cells constants (Plain g.named.name) g.known

  numbered-named : (n : ℕ) (own : List Named) → ((i m : ℕ) → m ≡ n + i → slice_get own i ≡ slice_get constants m) → Each GivenIsNamed (numbered_from n own)
  numbered-named n [] f = tt
  numbered-named n (c ∷ own) f = (slice_get-named n c (sym (f 0 n (omega arith))), numbered-named (suc n) own (λ i m e. f (suc i) m (omega (arith, e))))
    where
      mapped : (l : List Named) (i : ℕ) (x : Named) → slice_get l i ≡ Some x → slice_get (map named l) i ≡ Some (named x)
      mapped [] i x e = absurd (none-some x e)
      mapped (y ∷ l) zero x e = ap (λ (z : Named). Some (named z)) (same_Some y x e)
      mapped (y ∷ l) (suc i) x e = mapped l i x e

      slice_get-named : (i : ℕ) (x : Named) → slice_get constants i ≡ Some x → slice_get (map named constants) i ≡ Some (named x)
      slice_get-named i x e = mapped constants i x e

  specs-named : (table : Table) (files : List SourceFile) (from : Origin) (names : List ImportName) → Each GivenIsNamed (filter_map (spec_given table files from) names)
  specs-named table files from [] = tt
  specs-named table files from (spec ∷ names) = by (import_of table files from spec.given.name) refl (specs-named table files from names)
    where
      by : (o : Option Known) → import_of table files from spec.given.name ≡ o → Each GivenIsNamed (filter_map (spec_given table files from) names)
          → Each GivenIsNamed (cons_option (option_map (λ (k : Known). record { named = spec.local; known = k }) o) (filter_map (spec_given table files from) names))
      by None e later = later
      by (Some k) e later = (foreign_name cells constants (Plain spec.local.name) k (import_foreign table files from spec.given.name k e), later)

  layer-named : (table : Table) (files : List SourceFile) (layer : StmtLayer) → Each GivenIsNamed (imported_layer table files layer)
  layer-named table files (StmtKind-F.Import i) = specs-named table files (origin_of files i.from) i.names
  layer-named table files _ = tt

  imported-named : (table : Table) (files : List SourceFile) (stmts : List Stmt) → Each GivenIsNamed (flat_map (imported table files) stmts)
  imported-named table files [] = tt
  imported-named table files (s ∷ stmts) = each_append GivenIsNamed (imported table files s) (flat_map (imported table files) stmts) (layer-named table files (out-StmtKind s.kind)) (imported-named table files stmts)

  -- ---- what is known at the top

  abbrev pub EntryIsNamed : Ref × Known → Type 0
  EntryIsNamed k = IsNameOf cells constants k.0 k.1

  cells-named : (n : ℕ) (own : List Ref) → ((i m : ℕ) → m ≡ n + i → slice_get own i ≡ slice_get cells m) → Each EntryIsNamed (cells_from n own)
  cells-named n [] f = tt
  cells-named n (c ∷ own) f = (sym (f 0 n (omega arith)), cells-named (suc n) own (λ i m e. f (suc i) m (omega (arith, e))))

  given-named : (given : List Given) → Each GivenIsNamed given → Each EntryIsNamed (map given_name given)
  given-named [] h = tt
  given-named (g ∷ given) h = (h.0, given-named given h.1)

pub givens-named : (cells : List Ref) (table : Table) (files : List SourceFile) (stmts : List Stmt) → Each (GivenIsNamed cells (all_constants stmts)) (givens table files stmts)
givens-named cells table files stmts =
    let constants = all_constants stmts in
    each_append (GivenIsNamed cells constants) (numbered_from 0 constants) (flat_map (imported table files) stmts)
    (numbered-named cells constants 0 constants (λ i m e. ap (slice_get constants) (omega (arith, e)))) (imported-named cells constants table files stmts)

-- ---- what is built in

-- of what is built in each is so, where it is so of all that may be
built-each : (P : Ref × Known → Type 0) → ((name : Ref) (what : BuiltIn) → P (name, known.BuiltIn what)) → (table : Table) → Each P (all_built table)
built-each P f table =
    let string = built table STRING.now built_in.String in
    let boolean = built table BOOLEAN.now built_in.Boolean in
    let math = built table MATH.now built_in.Math in
    let console = built table CONSOLE.now built_in.Console in
    each_append P string (boolean ++ (math ++ console)) (one _ _ built_in.String)
    (each_append P boolean (math ++ console) (one _ _ built_in.Boolean) (each_append P math console (one _ _ built_in.Math) (one _ _ built_in.Console)))
  where
    one : (b : Bool) (name : Ref) (what : BuiltIn) → Each P (if b then (name, known.BuiltIn what) ∷ [] else [])
    one true name what = (f name what, tt)
    one false name what = tt

pub built-foreign : (table : Table) (name : Ref) (k : Known) → known_in (all_built table) name ≡ Some k → IsForeign k
built-foreign table name k is = found-each (λ p. IsForeign p.1) (all_built table) name k (built-each (λ p. IsForeign p.1) (λ n what. tt) table) is

module _ (table : Table) (files : List SourceFile) (cells : List Ref) (stmts : List Stmt) where
  abbrev pub Others : List (Ref × Known)
  Others = map given_name (givens table files stmts) ++ all_built table

  -- what is known at the top of a file
  abbrev pub Known_all : List (Ref × Known)
  Known_all = (tops table cells (givens table files stmts)).known

  -- each name stands for what is its own
  pub stands : (name : Ref) (k : Known) → known_in Known_all name ≡ Some k → IsNameOf cells (all_constants stmts) name k
  stands name k is =
      let constants = all_constants stmts in
      let P = EntryIsNamed cells constants in
      let given = givens table files stmts in
      let rest = each_append P (map given_name given) (all_built table) (given-named cells constants given (givens-named cells table files stmts)) (built-each P (λ n what. tt) table) in
      found-each P (cells_from 0 cells ++ Others) name k
      (each_append P (cells_from 0 cells) Others (cells-named cells constants 0 cells (λ i m e. ap (slice_get cells) (omega (arith, e)))) rest)
      (sym (known_all [] (cells_from 0 cells ++ Others) name) ∙ is)

pub top_of : (table : Table) (files : List SourceFile) (cells : List Ref) (stmts : List Stmt) → IsTopOf (tops table cells (givens table files stmts)) cells
top_of table files cells stmts = record { cell = λ name n is. stands table files cells stmts name (known.Cell n) is; no_local = λ name x is. stands table files cells stmts name (known.Local x) is }
