-- What names stand for at the top of a file is there.
use Rattle.std.proofs.Common.{◌≡◌, ℕ, zero, suc, ◌+◌, ◌<◌, ◌≤◌, Bool, true, false, List, [], ◌∷◌, ◌++◌, Option, None, Some, length, map, filter, option_map, position, refl, sym, ap, subst, ◌∙◌, arith}
use Rattle.std.specs.List.{All, filter_map, flat_map, cons_option}
use Rattle.std.specs.Prelude.{find, is_some, slice_get, cond, if◌then◌else◌}
use Rattle.std.specs.Option.{option_to_list}
use Rattle.std.proofs.lemmas.List.Elements.{All-nil, All-cons, All-append, All-push, All-head, All-tail}
use Rattle.std.proofs.lemmas.List.Quantifiers.{position-Some}
use Rattle.std.proofs.lemmas.Option.{none-some, same_Some}
use Rattle.sv_ast.specs.declared.files.FileTree.{FileTree}
use Rattle.sv_ast.specs.declared.files.FileTree.TheVariants as tree
use Rattle.sv_ast.specs.declared.files.SourceFile.{SourceFile}
use Rattle.sv_ast.specs.declared.names.Named.{Named}
use Rattle.sv_ast.specs.declared.names.Ref.{Ref}
use Rattle.sv_ast.specs.declared.names.Ref.TheVariants.{Plain, Store}
use Rattle.sv_ast.specs.declared.script_tree.ImportName.{ImportName}
use Rattle.sv_ast.specs.declared.script_tree.Stmt.{Stmt}
use Rattle.sv_ast.specs.declared.script_tree.StmtKind.{StmtKind-F, out-StmtKind}
use Rattle.sv_base.specs.BuiltIn.{life_functions}
use Rattle.sv_base.specs.Names.{Table, is_text, is_one_of}
use Rattle.sv_base.specs.declared.built_in.TheConstants.{STRING, BOOLEAN, MATH, CONSOLE}
use Rattle.sv_base.specs.declared.names.Name.{Name}
use Rattle.sv_check.specs.declared.checked.CheckedComponent.{CheckedComponent}
use Rattle.sv_code.specs.Numbers.{OfFunction, OfCell, OfConstant, OfExport, Size, OfComponent, OfModule, size_at, cells_in, constants_in, given_in, functions_alone, IsThere}
use Rattle.sv_code.specs.declared.functions.TheConstants.{WRITABLE}
use Rattle.sv_code.specs.declared.known.BuiltIn.{BuiltIn}
use Rattle.sv_code.specs.declared.known.BuiltIn.TheVariants as built_in
use Rattle.sv_code.specs.declared.known.Known.{Known}
use Rattle.sv_code.specs.declared.known.Known.TheVariants as known
use Rattle.sv_code.specs.declared.known.Life.{Life}
use Rattle.sv_code.specs.declared.program.Prop.{Prop}
use Rattle.sv_code.specs.declared.program.StoreCell.{StoreCell}
use Rattle.sv_imports.specs.Imports.{StmtLayer}
use Rattle.sv_imports.specs.Language.{derived_functions, is_store_function}
use Rattle.sv_imports.specs.Unknown.{origin_of}
use Rattle.sv_imports.specs.declared.origin.Origin.{Origin}
use Rattle.sv_imports.specs.declared.origin.Origin.TheVariants as origin
use Rattle.sv_lower.specs.Tops.{Tops, known_in, with_known, with_all}
use Rattle.sv_lower.proofs.Lowering.{KnownThere, TopsThere}
use Rattle.sv_names.specs.Distinct.{same_ref}
use Rattle.sv_compile.specs.declared.constants.Given.{Given}
use Rattle.sv_compile.specs.declared.imports.TheConstants.{LIVES}
use Rattle.sv_compile.specs.Constants.{same_name, all_constants, numbered_from, life_among, place_in, export_at, import_of, spec_given, imported_layer, imported, givens}
use Rattle.sv_compile.specs.Holders.{placed_name, variable, variables}
use Rattle.sv_resolve.specs.Cells.{is_variable}
use Rattle.sv_scopes.specs.declared.scope.Declared.{Declared}
use Rattle.sv_compile.specs.TopLevel.{cells_from, given_name, built, all_built, tops, cell_of, prop_of, holder, store_at, stores_from}

-- ---- how much files have

-- how much a file has, by what is told of it
abbrev pub tree_size : FileTree → CheckedComponent → Size
tree_size (tree.Component c) told = OfComponent (length told.scopes.cells) (length (all_constants c.script.stmts))
tree_size (tree.Module m) told = OfModule (length (all_constants m.script.stmts))

abbrev pub sizes_told : List SourceFile → List CheckedComponent → List Size
sizes_told [] told = []
sizes_told (s ∷ sources) [] = []
sizes_told (s ∷ sources) (t ∷ told) = tree_size s.tree t ∷ sizes_told sources told

pub sizes_count : (sources : List SourceFile) (told : List CheckedComponent) → length told ≡ length sources → length (sizes_told sources told) ≡ length sources
sizes_count [] told e = refl
sizes_count (s ∷ sources) [] e = absurd (omega (arith, e))
sizes_count (s ∷ sources) (t ∷ told) e = ap suc (sizes_count sources told (omega (arith, e)))

-- how many constants a file gives to others
abbrev tree_gives : FileTree → ℕ
tree_gives (tree.Component c) = 0
tree_gives (tree.Module m) = length (all_constants m.script.stmts)

tree_given : (t : FileTree) (told : CheckedComponent) → given_in (tree_size t told) ≡ tree_gives t
tree_given (tree.Component c) told = refl
tree_given (tree.Module m) told = refl

given_at : (sources : List SourceFile) (told : List CheckedComponent) (n : ℕ) (s : SourceFile) → length told ≡ length sources → slice_get sources n ≡ Some s → given_in (size_at (sizes_told sources told) n) ≡ tree_gives s.tree
given_at [] told n s e is = absurd (none-some s is)
given_at (x ∷ sources) [] n s e is = absurd (omega (arith, e))
given_at (x ∷ sources) (t ∷ told) zero s e is = tree_given x.tree t ∙ ap (λ (y : SourceFile). tree_gives y.tree) (same_Some x s is)
given_at (x ∷ sources) (t ∷ told) (suc n) s e is = given_at sources told n s (omega (arith, e)) is

-- ---- lists

kept_some : {B : Type 0} (P : B → Type 0) (o : Option B) (list : List B) → ((x : B) → o ≡ Some x → P x) → All P list → All P (cons_option o list)
kept_some P None list h rest = rest
kept_some P (Some x) list h rest = All-cons P x list (h x refl) rest

pub filter_all : {A B : Type 0} (P : B → Type 0) (f : A → Option B) (list : List A) → ((a : A) (x : B) → f a ≡ Some x → P x) → All P (filter_map f list)
filter_all P f [] h = All-nil P
filter_all P f (a ∷ list) h = kept_some P (f a) (filter_map f list) (h a) (filter_all P f list h)

pub flat_all : {A B : Type 0} (P : B → Type 0) (f : A → List B) (list : List A) → ((a : A) → All P (f a)) → All P (flat_map f list)
flat_all P f [] h = All-nil P
flat_all P f (a ∷ list) h = All-append P (f a) (flat_map f list) (h a) (flat_all P f list h)

find_in : {A : Type 0} (P : A → Type 0) (test : A → Bool) (list : List A) (x : A) → All P list → find test list ≡ Some x → P x
find_in P test [] x h is = absurd (none-some x is)
find_in P test (a ∷ list) x h is = by (test a) (find_in P test list x (All-tail P a list h)) is
  where
    by : (b : Bool) → (find test list ≡ Some x → P x) → cond b (Some a) (find test list) ≡ Some x → P x
    by true more is = subst P (same_Some a x is) (All-head P a list h)
    by false more is = more is

module _ (sizes : List Size) (file : ℕ) where
  -- what a name stands for is there
  abbrev pub Stands : Known → Type 0
  Stands k = KnownThere sizes file k

  abbrev pub GivenStands : Given → Type 0
  GivenStands g = Stands g.known

  -- ---- constants

  numbered_stand : (n : ℕ) (names : List Named) → n + length names ≤ constants_in (size_at sizes file) → All (GivenStands) (numbered_from n names)
  numbered_stand n [] low = All-nil (GivenStands)
  numbered_stand n (name ∷ names) low =
      let below : n < constants_in (size_at sizes file) = omega (arith, low) in
      All-cons (GivenStands) (record { named = name; known = known.Constant n }) (numbered_from (suc n) names)
      (λ k writable. All-cons (IsThere (functions_alone sizes (size_at sizes file) k)) (OfConstant n) [] below (All-nil (IsThere (functions_alone sizes (size_at sizes file) k))))
      (numbered_stand (suc n) names (omega (arith, low)))

  -- ---- imports

  life_stands : (table : Table) (texts : List (List ℕ)) (lives : List Life) (name : Name) (k : Known) → life_among table texts lives name ≡ Some k → Stands k
  life_stands table [] lives name k is = absurd (none-some k is)
  life_stands table (text ∷ texts) [] name k is = absurd (none-some k is)
  life_stands table (text ∷ texts) (life ∷ lives) name k is = by (is_text table text name) (life_stands table texts lives name k) is
    where
      by : (b : Bool) → (life_among table texts lives name ≡ Some k → Stands k) → (if b then Some (known.Life life) else life_among table texts lives name) ≡ Some k → Stands k
      by true more is = subst (Stands) (same_Some (known.Life life) k is) (λ n writable. All-nil (IsThere (functions_alone sizes (size_at sizes file) n)))
      by false more is = more is

  writable_stands : Stands known.Writable
  writable_stands n writable = All-cons (IsThere (functions_alone sizes (size_at sizes file) n)) (OfFunction WRITABLE) [] writable (All-nil (IsThere (functions_alone sizes (size_at sizes file) n)))

  derived_stands : Stands known.Derived
  derived_stands n writable = All-nil (IsThere (functions_alone sizes (size_at sizes file) n))

  store_stands : (d b : Bool) (k : Known) → (if d then Some known.Derived else (if b then Some known.Writable else None)) ≡ Some k → Stands k
  store_stands true b k is = subst (Stands) (same_Some known.Derived k is) (derived_stands)
  store_stands false true k is = subst (Stands) (same_Some known.Writable k is) (writable_stands)
  store_stands false false k is = absurd (none-some k is)

  export_stands : (from n : ℕ) → n < given_in (size_at sizes from) → Stands (known.Export from n)
  export_stands from n below k writable = All-cons (IsThere (functions_alone sizes (size_at sizes file) k)) (OfExport from n) [] below (All-nil (IsThere (functions_alone sizes (size_at sizes file) k)))

  placed_stands : (from most : ℕ) (place : Option ℕ) (k : Known) → given_in (size_at sizes from) ≡ most → ((n : ℕ) → place ≡ Some n → n < most) → option_map (known.Export from) place ≡ Some k → Stands k
  placed_stands from most None k e low is = absurd (none-some k is)
  placed_stands from most (Some n) k e low is = subst (Stands) (same_Some (known.Export from n) k is) (export_stands from n (subst (λ m. n < m) (sym e) (low n refl)))

  place_below : (t : FileTree) (name : Name) (n : ℕ) → place_in t name ≡ Some n → n < tree_gives t
  place_below (tree.Component c) name n is = absurd (none-some n is)
  place_below (tree.Module m) name n is = by (all_constants m.script.stmts) is
    where
      by : (list : List Named) → position (λ c. same_name c.name name) list ≡ Some n → n < length list
      by [] is = absurd (none-some n is)
      by (c ∷ list) is = (position-Some (λ c. same_name c.name name) (c ∷ list) n c is).0

module _ (files : List SourceFile) (told : List CheckedComponent) (size : length told ≡ length files) (file : ℕ) where
  abbrev Sizes : List Size
  Sizes = sizes_told files told

  file_stands : (from : ℕ) (o : Option SourceFile) (name : Name) (k : Known) → slice_get files from ≡ o → export_at from o name ≡ Some k → Stands (sizes_told files told) file k
  file_stands from None name k there is = absurd (none-some k is)
  file_stands from (Some source) name k there is =
      placed_stands (sizes_told files told) file from (tree_gives source.tree) (place_in source.tree name) k (given_at files told from source size there) (place_below (sizes_told files told) file source.tree name) is

  import_stands : (table : Table) (from : Origin) (name : Name) (k : Known) → import_of table files from name ≡ Some k → Stands (sizes_told files told) file k
  import_stands table origin.Life name k is = life_stands (sizes_told files told) file table life_functions LIVES name k is
  import_stands table origin.Stores name k is = store_stands (sizes_told files told) file (is_one_of table derived_functions name) (is_store_function table name) k is
  import_stands table (origin.File from) name k is = file_stands from (slice_get files from) name k refl is
  import_stands table origin.Nowhere name k is = absurd (none-some k is)

  spec_stands : (spec : ImportName) (o : Option Known) (g : Given) → ((k : Known) → o ≡ Some k → Stands (sizes_told files told) file k) → option_map (λ (k : Known). record { named = spec.local; known = k }) o ≡ Some g → GivenStands (sizes_told files told) file g
  spec_stands spec None g h is = absurd (none-some g is)
  spec_stands spec (Some k) g h is = subst (GivenStands (sizes_told files told) file) (same_Some (record { named = spec.local; known = k }) g is) (h k refl)

  layer_stands : (table : Table) (layer : StmtLayer) → All (GivenStands (sizes_told files told) file) (imported_layer table files layer)
  layer_stands table (StmtKind-F.Import i) =
      filter_all (GivenStands (sizes_told files told) file) (spec_given table files (origin_of files i.from)) i.names
      (λ spec g is. spec_stands spec (import_of table files (origin_of files i.from) spec.given.name) g (import_stands table (origin_of files i.from) spec.given.name) is)
  layer_stands table _ = All-nil (GivenStands (sizes_told files told) file)

  pub givens_stand : (table : Table) (stmts : List Stmt) → length (all_constants stmts) ≡ constants_in (size_at (sizes_told files told) file) → All (GivenStands (sizes_told files told) file) (givens table files stmts)
  givens_stand table stmts count =
      All-append (GivenStands (sizes_told files told) file) (numbered_from 0 (all_constants stmts)) (flat_map (imported table files) stmts)
      (numbered_stand (sizes_told files told) file 0 (all_constants stmts) (omega (arith, count)))
      (flat_all (GivenStands (sizes_told files told) file) (imported table files) stmts (λ s. layer_stands table (out-StmtKind s.kind)))

module _ (sizes : List Size) (file : ℕ) where
  abbrev pub PairStands : Ref × Known → Type 0
  PairStands k = KnownThere sizes file k.1

  -- ---- the top of a file

  cell_stands : (n : ℕ) → n < cells_in (size_at sizes file) → Stands sizes file (known.Cell n)
  cell_stands n below k writable = All-cons (IsThere (functions_alone sizes (size_at sizes file) k)) (OfCell n) [] below (All-nil (IsThere (functions_alone sizes (size_at sizes file) k)))

  cells_stand : (n : ℕ) (cells : List Ref) → n + length cells ≤ cells_in (size_at sizes file) → All (PairStands) (cells_from n cells)
  cells_stand n [] low = All-nil (PairStands)
  cells_stand n (cell ∷ cells) low = All-cons (PairStands) (cell, known.Cell n) (cells_from (suc n) cells) (cell_stands n (omega (arith, low))) (cells_stand (suc n) cells (omega (arith, low)))

  given_pairs : (given : List Given) → All (GivenStands sizes file) given → All (PairStands) (map given_name given)
  given_pairs [] h = All-nil (PairStands)
  given_pairs (g ∷ given) h = All-cons (PairStands) (given_name g) (map given_name given) (All-head (GivenStands sizes file) g given h) (given_pairs given (All-tail (GivenStands sizes file) g given h))

  one_built : (b : Bool) (name : Ref) (what : BuiltIn) → All (PairStands) (if b then (name, known.BuiltIn what) ∷ [] else [])
  one_built true name what = All-cons (PairStands) (name, known.BuiltIn what) [] (λ n writable. All-nil (IsThere (functions_alone sizes (size_at sizes file) n))) (All-nil (PairStands))
  one_built false name what = All-nil (PairStands)

  built_stands : (table : Table) (text : List ℕ) (what : BuiltIn) → All (PairStands) (built table text what)
  built_stands table text what = one_built _ _ what

  all_built_stand : (table : Table) → All (PairStands) (all_built table)
  all_built_stand table =
      let last = All-append (PairStands) (built table MATH.now built_in.Math) (built table CONSOLE.now built_in.Console) (built_stands table MATH.now built_in.Math) (built_stands table CONSOLE.now built_in.Console) in
      let more = All-append (PairStands) (built table BOOLEAN.now built_in.Boolean) (built table MATH.now built_in.Math ++ built table CONSOLE.now built_in.Console) (built_stands table BOOLEAN.now built_in.Boolean) last in
      All-append (PairStands) (built table STRING.now built_in.String) (built table BOOLEAN.now built_in.Boolean ++ (built table MATH.now built_in.Math ++ built table CONSOLE.now built_in.Console)) (built_stands table STRING.now built_in.String) more

  one_more : (b : Bool) (known : List (Ref × Known)) (k : Ref × Known) → All (PairStands) known → PairStands k → All (PairStands) (if b then known else known ++ k ∷ [])
  one_more true known k h own = h
  one_more false known k h own = All-push (PairStands) known k h own

  all_stand : (known more : List (Ref × Known)) → All (PairStands) known → All (PairStands) more → All (PairStands) (with_all known more)
  all_stand known [] h rest = h
  all_stand known (k ∷ more) h rest =
      all_stand (with_known known k) more (one_more (is_some (known_in known k.0)) known k h (All-head (PairStands) k more rest)) (All-tail (PairStands) k more rest)

  pub tops_stand : (table : Table) (cells : List Ref) (given : List Given) → length cells ≡ cells_in (size_at sizes file) → All (GivenStands sizes file) given → TopsThere sizes file (tops table cells given)
  tops_stand table cells given count h =
      let rest = All-append (PairStands) (map given_name given) (all_built table) (given_pairs given h) (all_built_stand table) in
      all_stand [] (cells_from 0 cells ++ (map given_name given ++ all_built table)) (All-nil (PairStands))
      (All-append (PairStands) (cells_from 0 cells) (map given_name given ++ all_built table) (cells_stand 0 cells (omega (arith, count))) rest)

  -- ---- props and stores

  found_stands : (ks : List (Ref × Known)) (name : Ref) (k : Known) → All (PairStands) ks → known_in ks name ≡ Some k → Stands sizes file k
  found_stands [] name k h is = absurd (none-some k is)
  found_stands (p ∷ ks) name k h is = by (same_ref name p.0) (found_stands ks name k (All-tail (PairStands) p ks h)) is
    where
      by : (b : Bool) → (known_in ks name ≡ Some k → Stands sizes file k) → (if b then Some p.1 else known_in ks name) ≡ Some k → Stands sizes file k
      by true more is = subst (Stands sizes file) (same_Some p.1 k is) (All-head (PairStands) p ks h)
      by false more is = more is

  cell_below : (o : Option Known) (n : ℕ) → ((k : Known) → o ≡ Some k → Stands sizes file k) → cell_of o ≡ Some n → n < cells_in (size_at sizes file)
  cell_below (Some (known.Cell m)) n h is =
      let there = h (known.Cell m) refl (suc WRITABLE) (omega arith) in
      subst (λ x. x < cells_in (size_at sizes file)) (same_Some m n is) (All-head (IsThere (functions_alone sizes (size_at sizes file) (suc WRITABLE))) (OfCell m) [] there)
  cell_below _ n h is = absurd (none-some n is)

  -- the cell that a name stands for
  pub name_cell : (top : Tops) (name : Ref) (n : ℕ) → TopsThere sizes file top → cell_of (known_in top.known name) ≡ Some n → n < cells_in (size_at sizes file)
  name_cell top name n h is = cell_below (known_in top.known name) n (λ k found. found_stands top.known name k h found) is

  pub view_stands : (o : Option ℕ) → ((n : ℕ) → o ≡ Some n → n < cells_in (size_at sizes file)) → All (λ n. n < cells_in (size_at sizes file)) (option_to_list o)
  view_stands None h = All-nil (λ n. n < cells_in (size_at sizes file))
  view_stands (Some n) h = All-cons (λ n. n < cells_in (size_at sizes file)) n [] (h n refl) (All-nil (λ n. n < cells_in (size_at sizes file)))

  prop_stands : (name : Name) (o : Option ℕ) (p : Prop) → ((n : ℕ) → o ≡ Some n → n < cells_in (size_at sizes file)) → option_map (λ (n : ℕ). record { name = name; cell = n }) o ≡ Some p → p.cell < cells_in (size_at sizes file)
  prop_stands name None p h is = absurd (none-some p is)
  prop_stands name (Some n) p h is = subst (λ (p : Prop). p.cell < cells_in (size_at sizes file)) (same_Some (record { name = name; cell = n }) p is) (h n refl)

  pub props_stand : (top : Tops) (names : List Ref) → TopsThere sizes file top → All (λ (p : Prop). p.cell < cells_in (size_at sizes file)) (filter_map (prop_of top) names)
  props_stand top names h =
      filter_all (λ (p : Prop). p.cell < cells_in (size_at sizes file)) (prop_of top) names (λ name p is. prop_stands _ (cell_of (known_in top.known name)) p (λ n cell. name_cell top name n h cell) is)

  -- a variable stands for what is there
  variable_stands : (named : Named) (o : Option Known) (g : Given) → ((k : Known) → o ≡ Some k → Stands sizes file k) → option_map (λ (k : Known). record { named = named; known = k }) o ≡ Some g → GivenStands sizes file g
  variable_stands named None g h is = absurd (none-some g is)
  variable_stands named (Some k) g h is = subst (GivenStands sizes file) (same_Some (record { named = named; known = k }) g is) (h k refl)

  pub variables_stand : (table : Table) (top : Tops) (ds : List Declared) → TopsThere sizes file top → All (GivenStands sizes file) (variables table top ds)
  variables_stand table top ds h =
      filter_all (GivenStands sizes file) (variable table top) (filter (λ d. is_variable d.by) ds)
      (λ d g is. variable_stands (placed_name table d) (known_in top.known (Plain d.name)) g (λ k found. found_stands top.known (Plain d.name) k h found) is)

  -- a store cell is one of so many, and what holds the store is there
  pub record StoreStands (count : ℕ) (s : StoreCell) : Type 0 where
    pub cell : s.cell < count
    pub holder : Stands sizes file s.holder

  held_stands : (count n : ℕ) (o : Option Given) → n < count → ((g : Given) → o ≡ Some g → GivenStands sizes file g) → All (StoreStands count) (option_to_list (option_map (λ (g : Given). record { cell = n; holder = g.known; span = g.named.span }) o))
  held_stands count n None below h = All-nil (StoreStands count)
  held_stands count n (Some g) below h = All-cons (StoreStands count) (record { cell = n; holder = g.known; span = g.named.span }) [] (record { cell = below; holder = h g refl }) (All-nil (StoreStands count))

  store_at_stands : (count : ℕ) (given : List Given) (n : ℕ) (name : Ref) → n < count → All (GivenStands sizes file) given → All (StoreStands count) (store_at given n name)
  store_at_stands count given n (Plain name) below h = All-nil (StoreStands count)
  store_at_stands count given n (Store name) below h = held_stands count n (holder given name) below (λ g is. find_in (GivenStands sizes file) (λ g. same_name g.named.name name) given g h is)

  pub stores_stand : (count : ℕ) (given : List Given) (n : ℕ) (cells : List Ref) → n + length cells ≤ count → All (GivenStands sizes file) given → All (StoreStands count) (stores_from given n cells)
  stores_stand count given n [] low h = All-nil (StoreStands count)
  stores_stand count given n (cell ∷ cells) low h =
      All-append (StoreStands count) (store_at given n cell) (stores_from given (suc n) cells) (store_at_stands count given n cell (omega (arith, low)) h) (stores_stand count given (suc n) cells (omega (arith, low)) h)
