-- What a checked program is compiled to is a compiled program.
use Rattle.std.proofs.Common.{◌≡◌, ℕ, zero, suc, ◌+◌, ◌<◌, ◌≤◌, Bool, true, false, List, [], ◌∷◌, Option, None, Some, length, filter, refl, sym, ap, subst, ◌∙◌, arith}
use Rattle.std.specs.List.{All}
use Rattle.std.specs.Prelude.{slice_get, if◌then◌else◌}
use Rattle.std.specs.Option.{option_map_or}
use Rattle.std.proofs.lemmas.List.Elements.{All-nil, All-cons, All-append, All-head, All-tail}
use Rattle.std.proofs.lemmas.Bool.{false≢true}
use Rattle.std.proofs.lemmas.Option.{none-some, same_Some}
use Rattle.sv_ast.specs.declared.files.Bundle.{Bundle}
use Rattle.sv_ast.specs.declared.files.Component.{Component}
use Rattle.sv_ast.specs.declared.files.FileTree.{FileTree}
use Rattle.sv_ast.specs.declared.files.FileTree.TheVariants as tree
use Rattle.sv_ast.specs.declared.files.SourceFile.{SourceFile}
use Rattle.sv_ast.specs.declared.script_tree.Stmt.{Stmt}
use Rattle.sv_base.specs.declared.limits.TheConstants.{CELL_LIMIT}
use Rattle.sv_check.specs.declared.checked.CheckedComponent.{CheckedComponent}
use Rattle.sv_check.specs.Checked.{IsChecked, AreChecked}
use Rattle.sv_code.proofs.Compiled.{all_mono}
use Rattle.sv_code.specs.declared.functions.Function.{Function}
use Rattle.sv_code.specs.declared.known.Known.{Known}
use Rattle.sv_code.specs.declared.program.Component.{Component as CodeComponent}
use Rattle.sv_code.specs.declared.program.FileCode.{FileCode}
use Rattle.sv_code.specs.declared.program.FileCode.TheVariants as file_code
use Rattle.sv_code.specs.declared.program.Prop.{Prop}
use Rattle.sv_code.specs.declared.program.ProgramFile.{ProgramFile}
use Rattle.sv_code.specs.declared.program.StoreCell.{StoreCell}
use Rattle.sv_code.specs.Compiled.{size_of, sizes_of, IsComponent, IsCode, IsFile, AreInFile, IsModule, IsCompiled}
use Rattle.sv_code.specs.Numbers.{Number, Size, OfModule, Counts, size_at, cells_in, constants_in, is_component, functions_alone, IsThere, of_known, of_stmts as stmt_numbers, of_frags, of_function, of_tag, of_handler}
use Rattle.sv_fragments.specs.declared.around.Tables.{Tables}
use Rattle.sv_fragments.specs.Frags.{fragments}
use Rattle.sv_fragments.proofs.Looking.{numbers_within}
use Rattle.sv_fragments.proofs.Naming.{fragments_keep}
use Rattle.sv_fragments.proofs.Sound.{counted, IsSound, Fits, lowered_keeps}
use Rattle.sv_lines.specs.Lines.{ascends, LinesAscend}
use Rattle.sv_lower.specs.Lower.{of_stmts}
use Rattle.sv_lower.specs.Tops.{known_in}
use Rattle.sv_lower.proofs.Keeping.{AtLeast, AreSomewhere, no_more, once_more, still_there}
use Rattle.sv_lower.proofs.Lowering.{KnownThere, TopsThere, of_stmts_keeps}
use Rattle.sv_scopes.specs.declared.scope.TheConstants.{VIEW}
use Rattle.sv_scopes.specs.Files.{component_scopes}
use Rattle.sv_slots.specs.Sheets.{all_props}
use Rattle.sv_graph.specs.declared.outcome.Visited.{Visited}
use Rattle.sv_graph.specs.declared.outcome.Visited.TheVariants as visited
use Rattle.sv_compile.specs.Compile.{around, component, module_code, tree_code, file, files_code, writable, first_tables, program}
use Rattle.sv_compile.specs.Constants.{all_constants, givens}
use Rattle.sv_compile.specs.Holders.{variables, holders}
use Rattle.sv_ast.specs.Files.{is_module}
use Rattle.sv_compile.specs.Modules.{is_module_at, modules_in, AreModules}
use Rattle.sv_compile.specs.TopLevel.{tops, cell_of}
use Rattle.sv_compile.proofs.TagFiles.{tags_are_files}
use Rattle.sv_compile.proofs.Reacting.{runs_are}
use Rattle.sv_compile.proofs.Within.{parts_within, contents_seen}
use Rattle.sv_compile.proofs.Standing.{tree_size, sizes_told, sizes_count, GivenStands, givens_stand, tops_stand, name_cell, view_stands, props_stand, variables_stand, StoreStands, stores_stand}

-- ---- how much the code of files has

tree_sized : (bundle : Bundle) (t : FileTree) (told : CheckedComponent) (before : Tables) → size_of (tree_code bundle t told before).0 ≡ tree_size t told
unfolding component module_code
tree_sized bundle (tree.Component c) told before = refl
tree_sized bundle (tree.Module m) told before = refl

sizes_are : (bundle : Bundle) (sources : List SourceFile) (told : List CheckedComponent) (before : Tables) → sizes_of (files_code bundle sources told before).0 ≡ sizes_told sources told
sizes_are bundle [] told before = refl
sizes_are bundle (s ∷ sources) [] before = refl
sizes_are bundle (s ∷ sources) (t ∷ told) before =
    ap (λ x. x ∷ sizes_of (files_code bundle sources told (file bundle s t before).1).0) (tree_sized bundle s.tree t before)
    ∙ ap (λ (l : List Size). tree_size s.tree t ∷ l) (sizes_are bundle sources told (file bundle s t before).1)

-- ---- what is there still

-- what there is for a file of some size
abbrev counted_in : List Size → Size → Tables → Counts
counted_in sizes home t = record { functions = length t.functions; tags = length t.tags; handlers = length t.handlers; sizes = sizes; home = home }

component_still : (a b : Counts) → AtLeast a b → (c : CodeComponent) → IsComponent a c → IsComponent b c
component_still a b more c is = record {
  few = is.few;
  props = is.props;
  reactive = is.reactive;
  store_cells = is.store_cells;
  holders = all_mono (λ (s : StoreCell). All (IsThere a) (of_known s.holder)) (λ (s : StoreCell). All (IsThere b) (of_known s.holder)) (λ s h. still_there a b more (of_known s.holder) h) c.stores is.holders;
  view = is.view;
  runs = is.runs;
  script = still_there a b more (stmt_numbers c.script) is.script;
  markup = still_there a b more (of_frags c.markup) is.markup;
}

code_still : (a b : Counts) → AtLeast a b → (code : FileCode) → IsCode a code → IsCode b code
code_still a b more (file_code.Component c) is = component_still a b more c is
code_still a b more (file_code.Module m) is = still_there a b more (stmt_numbers m.script) is

-- ---- the code of one file

-- what is there among functions alone is there
all_there : (sizes : List Size) (t : Tables) (file : ℕ) (numbers : List Number) → All (IsThere (functions_alone sizes (size_at sizes file) (length t.functions))) numbers → All (IsThere (counted sizes file t)) numbers
all_there sizes t file numbers h =
    still_there (functions_alone sizes (size_at sizes file) (length t.functions)) (counted sizes file t) (record { functions = omega arith; tags = omega arith; handlers = omega arith; sizes = refl; home = refl }) numbers h

-- the code of a file behind some tables
pub record IsMade (sizes : List Size) (file : ℕ) (before : Tables) (made : FileCode × Tables) : Type 0 where
  pub more : AtLeast (counted sizes file before) (counted sizes file made.1)
  pub code : IsCode (counted sizes file made.1) made.0
  pub sound : IsSound sizes made.1

module _ (bundle : Bundle) (all : List CheckedComponent) (size : length all ≡ length bundle.files) (sizes : List Size) (same : sizes ≡ sizes_told bundle.files all) where
  -- what is given at the top of a file stands for what is there
  given_there : (n : ℕ) (stmts : List Stmt) → length (all_constants stmts) ≡ constants_in (size_at sizes n) → All (GivenStands sizes n) (givens bundle.names bundle.files stmts)
  given_there n stmts count =
      subst (λ (s : List Size). All (GivenStands s n) (givens bundle.names bundle.files stmts)) (sym same)
      (givens_stand bundle.files all size n bundle.names stmts (subst (λ (s : List Size). length (all_constants stmts) ≡ constants_in (size_at s n)) same count))

  sized : length sizes ≡ length bundle.files
  sized = ap length same ∙ sizes_count bundle.files all size

  -- what a name stands for is there, behind sound tables
  held_there : (n : ℕ) (t : Tables) → IsSound sizes t → (k : Known) → KnownThere sizes n k → All (IsThere (counted sizes n t)) (of_known k)
  held_there n t sound k h = all_there sizes t n (of_known k) (h (length t.functions) sound.functions.writable)

  component_made : (n : ℕ) (c : Component) (told : CheckedComponent) (before : Tables) → length told.scopes.cells ≤ CELL_LIMIT → 0 < length sizes → size_at sizes n ≡ tree_size (tree.Component c) told → IsSound sizes before
      → IsMade sizes n before (file_code.Component (component bundle c told before).0, (component bundle c told before).1)
  unfolding component
  component_made n c told before few some home sound =
      let cells = told.scopes.cells in
      let stmts = c.script.stmts in
      let given = givens bundle.names bundle.files stmts in
      let top = tops bundle.names cells given in
      let here = around bundle.files stmts told top in
      let cell_count : length cells ≡ cells_in (size_at sizes n) = ap cells_in (sym home) in
      let given_are = given_there n stmts (ap constants_in (sym home)) in
      let tops_are : TopsThere sizes n top = tops_stand sizes n bundle.names cells given cell_count given_are in
      let tags = tags_are_files bundle.files stmts in
      let fits : Fits sizes n here = record { tops = tops_are; cells = cell_count; children = subst (λ m. All (λ k. k.1 < m) here.children) (sym (sized)) tags; first = some } in
      let script = lowered_keeps sizes n here [] stmt_numbers (of_stmts stmts) (of_stmts_keeps sizes n top tops_are stmts []) before sound in
      let code = of_stmts stmts top [] before.functions in
      let middle : Tables = record before { functions = code.1 } in
      let markup = fragments_keep sizes n here fits c.nodes [] middle script.sound in
      let after = (fragments c.nodes here [] middle).1 in
      let a = counted sizes n middle in
      let b = counted sizes n after in
      let below = λ (k : ℕ) (h : k < cells_in (size_at sizes n)). subst (λ m. k < m) (sym cell_count) h in
      let declares = (component_scopes c).top.declares in
      let may_hold = All-append (GivenStands sizes n) given (variables bundle.names top declares) given_are (variables_stand sizes n bundle.names top declares tops_are) in
      let stores = stores_stand sizes n (length cells) (holders bundle.names top given c) 0 cells (omega arith) may_hold in
      record {
        more = once_more (counted sizes n before) a b script.more markup.more;
        code = record {
          few = few;
          props = all_mono (λ (p : Prop). p.cell < cells_in (size_at sizes n)) (λ (p : Prop). p.cell < length cells) (λ p h. below p.cell h) _ (props_stand sizes n top (all_props stmts) tops_are);
          reactive = numbers_within cells _;
          store_cells = all_mono (StoreStands sizes n (length cells)) (λ (s : StoreCell). s.cell < length cells) (λ s h. h.cell) _ stores;
          holders = all_mono (StoreStands sizes n (length cells)) (λ (s : StoreCell). All (IsThere b) (of_known s.holder)) (λ s h. held_there n after markup.sound s.holder h.holder) _ stores;
          view = all_mono (λ k. k < cells_in (size_at sizes n)) (λ k. k < length cells) below _ (view_stands sizes n (cell_of (known_in top.known VIEW)) (λ k is. name_cell sizes n top VIEW k tops_are is));
          runs = runs_are cells stmts top [] before.functions told.order.items;
          script = still_there a b markup.more (stmt_numbers code.0) script.there;
          markup = markup.there;
        };
        sound = markup.sound;
      }

  module_made : (n : ℕ) (stmts : List Stmt) (before : Tables) → size_at sizes n ≡ OfModule (length (all_constants stmts)) → IsSound sizes before
      → IsMade sizes n before (file_code.Module (module_code bundle stmts before).0, (module_code bundle stmts before).1)
  unfolding module_code
  module_made n stmts before home sound =
      let given = givens bundle.names bundle.files stmts in
      let top = tops bundle.names [] given in
      let tops_are : TopsThere sizes n top = tops_stand sizes n bundle.names [] given (ap cells_in (sym home)) (given_there n stmts (ap constants_in (sym home))) in
      let script = lowered_keeps sizes n (record { tops = top; cells = []; children = [] }) [] stmt_numbers (of_stmts stmts) (of_stmts_keeps sizes n top tops_are stmts []) before sound in
      record { more = script.more; code = script.there; sound = script.sound }

  tree_made : (n : ℕ) (t : FileTree) (told : CheckedComponent) (before : Tables) → length told.scopes.cells ≤ CELL_LIMIT → 0 < length sizes → size_at sizes n ≡ tree_size t told → IsSound sizes before → IsMade sizes n before (tree_code bundle t told before)
  tree_made n (tree.Component c) told before few some home sound = component_made n c told before few some home sound
  tree_made n (tree.Module m) told before few some home sound = module_made n m.script.stmts before home sound

  -- ---- the code of some files

  -- a file, where there is so much
  pub record IsFileIn (t : Tables) (f : ProgramFile) : Type 0 where
    pub lines : ascends f.lines ≡ true
    pub code : IsCode (counted_in sizes (size_of f.code) t) f.code

  -- the code of files behind some tables
  pub record AreMade (before : Tables) (made : List ProgramFile × Tables) : Type 0 where
    pub more : AtLeast (counted sizes 0 before) (counted sizes 0 made.1)
    pub each : All (IsFileIn made.1) made.0
    pub sound : IsSound sizes made.1

  abbrev Told : List SourceFile → List CheckedComponent → Type 0
  Told sources told = (n : ℕ) (source : SourceFile) (c : CheckedComponent) → slice_get sources n ≡ Some source → slice_get told n ≡ Some c → IsChecked source c

  -- these are the files from one with some number on
  abbrev From : ℕ → List SourceFile → List CheckedComponent → Type 0
  From n sources told = (k : ℕ) (source : SourceFile) (c : CheckedComponent) → slice_get sources k ≡ Some source → slice_get told k ≡ Some c → size_at sizes (n + k) ≡ tree_size source.tree c

  at_home : (n : ℕ) (a b : Tables) (home : Size) → AtLeast (counted sizes n a) (counted sizes n b) → AtLeast (counted_in sizes home a) (counted_in sizes home b)
  at_home n a b home more = record { functions = more.functions; tags = more.tags; handlers = more.handlers; sizes = refl; home = refl }

  files_made : (n : ℕ) (sources : List SourceFile) (told : List CheckedComponent) (before : Tables) → n + length sources ≡ length sizes → Told sources told → From n sources told → LinesAscend sources → IsSound sizes before
      → AreMade before (files_code bundle sources told before)
  files_made n [] told before count is from lines sound = record { more = no_more (counted sizes 0 before); each = All-nil (IsFileIn before); sound = sound }
  files_made n (s ∷ sources) [] before count is from lines sound = record { more = no_more (counted sizes 0 before); each = All-nil (IsFileIn before); sound = sound }
  files_made n (s ∷ sources) (t ∷ told) before count is from lines sound =
      let home : size_at sizes n ≡ tree_size s.tree t = subst (λ m. size_at sizes m ≡ tree_size s.tree t) (omega arith) (from zero s t refl refl) in
      let own = tree_made n s.tree t before (is zero s t refl refl).few (omega (arith, count)) home sound in
      let made = file bundle s t before in
      let t1 = made.1 in
      let later = files_made (n + 1) sources told t1 (omega (arith, count)) (λ k source c. is (suc k) source c)
      (λ k source c there given. subst (λ m. size_at sizes m ≡ tree_size source.tree c) (omega arith) (from (suc k) source c there given)) (All-tail (λ x. ascends x.lines ≡ true) s sources lines) own.sound in
      let t2 = (files_code bundle sources told t1).1 in
      let size_is : size_at sizes n ≡ size_of made.0.code = home ∙ sym (tree_sized bundle s.tree t before) in
      let code : IsCode (counted_in sizes (size_of made.0.code) t1) made.0.code = subst (λ (h : Size). IsCode (counted_in sizes h t1) made.0.code) size_is own.code in
      let more = at_home 0 t1 t2 (size_of made.0.code) later.more in
      record {
        more = once_more (counted sizes 0 before) (counted sizes 0 t1) (counted sizes 0 t2) (at_home n before t1 (size_at sizes 0) own.more) later.more;
        each = All-cons (IsFileIn t2) made.0 (files_code bundle sources told t1).0
            (record { lines = All-head (λ x. ascends x.lines ≡ true) s sources lines; code = code_still (counted_in sizes (size_of made.0.code) t1) (counted_in sizes (size_of made.0.code) t2) more made.0.code code })
            later.each;
        sound = later.sound;
      }

-- ---- sizes by the numbers of files

size_told : (sources : List SourceFile) (told : List CheckedComponent) (n : ℕ) (s : SourceFile) (t : CheckedComponent) → slice_get sources n ≡ Some s → slice_get told n ≡ Some t → size_at (sizes_told sources told) n ≡ tree_size s.tree t
size_told [] told n s t is given = absurd (none-some s is)
size_told (x ∷ sources) [] n s t is given = absurd (none-some t given)
size_told (x ∷ sources) (y ∷ told) zero s t is given = ap (λ (z : SourceFile). tree_size z.tree y) (same_Some x s is) ∙ ap (tree_size s.tree) (same_Some y t given)
size_told (x ∷ sources) (y ∷ told) (suc n) s t is given = size_told sources told n s t is given

-- ---- modules

module_is : (bundle : Bundle) (t : FileTree) (told : CheckedComponent) (before : Tables) → is_module t ≡ true → is_component (size_of (tree_code bundle t told before).0) ≡ false
unfolding module_code
module_is bundle (tree.Component c) told before is = absurd (false≢true is)
module_is bundle (tree.Module m) told before is = refl

module_placed : (bundle : Bundle) (sources : List SourceFile) (told : List CheckedComponent) (before : Tables) (n : ℕ) (s : SourceFile) → length told ≡ length sources → slice_get sources n ≡ Some s → is_module s.tree ≡ true
    → IsModule (files_code bundle sources told before).0 n
module_placed bundle [] told before n s size there is = absurd (none-some s there)
module_placed bundle (x ∷ sources) [] before n s size there is = absurd (omega (arith, size))
module_placed bundle (x ∷ sources) (t ∷ told) before zero s size there is =
    record { file = (file bundle x t before).0; stands = refl; is_module = module_is bundle x.tree t before (subst (λ (y : SourceFile). is_module y.tree ≡ true) (sym (same_Some x s there)) is) }
module_placed bundle (x ∷ sources) (t ∷ told) before (suc n) s size there is =
    let rest = module_placed bundle sources told (file bundle x t before).1 n s (omega (arith, size)) there is in
    record { file = rest.file; stands = rest.stands; is_module = rest.is_module }

module_found : (bundle : Bundle) (told : List CheckedComponent) (before : Tables) (n : ℕ) (o : Option SourceFile) → length told ≡ length bundle.files → slice_get bundle.files n ≡ o → option_map_or (λ (s : SourceFile). is_module s.tree) o false ≡ true
    → IsModule (files_code bundle bundle.files told before).0 n
module_found bundle told before n None size there is = absurd (false≢true is)
module_found bundle told before n (Some s) size there is = module_placed bundle bundle.files told before n s size there is

filter_keeps : (P : ℕ → Type 0) (test : ℕ → Bool) (list : List ℕ) → ((n : ℕ) → test n ≡ true → P n) → All P (filter test list)
filter_keeps P test [] h = All-nil P
filter_keeps P test (n ∷ list) h = by (test n) (filter_keeps P test list h) refl
  where
    by : (b : Bool) → All P (filter test list) → test n ≡ b → All P (if b then n ∷ filter test list else filter test list)
    by true rest is = All-cons P n (filter test list) (h n is) rest
    by false rest is = rest

modules_are : (bundle : Bundle) (told : List CheckedComponent) (before : Tables) (v : Visited) → length told ≡ length bundle.files → All (IsModule (files_code bundle bundle.files told before).0) (modules_in bundle.files v)
modules_are bundle told before (visited.Order order) size =
    filter_keeps (IsModule (files_code bundle bundle.files told before).0) (is_module_at bundle.files) order.items (λ n is. module_found bundle told before n (slice_get bundle.files n) size refl is)
modules_are bundle told before (visited.Cycle cycle) size = All-nil (IsModule (files_code bundle bundle.files told before).0)

-- ---- programs

first_sound : (sizes : List Size) → IsSound sizes first_tables
first_sound sizes = record {
  functions = record {
    writable = omega arith;
    closed = All-cons (λ (f : Function). AreSomewhere (functions_alone sizes (size_at sizes 0) 1) (of_function f)) writable [] (record { file = 0; there = All-nil _ }) (All-nil (λ (f : Function). AreSomewhere (functions_alone sizes (size_at sizes 0) 1) (of_function f)));
  };
  tags = All-nil (λ t. AreSomewhere (counted sizes 0 first_tables) (of_tag t));
  handlers = All-nil (λ h. AreSomewhere (counted sizes 0 first_tables) (of_handler h));
}

shifted : (k : ℕ) → k ≡ 0 + k
shifted k = omega arith

pub program_is_compiled : (bundle : Bundle) (told : List CheckedComponent) (modules : List ℕ) → AreChecked bundle told → LinesAscend bundle.files → AreModules bundle.files modules → IsCompiled (program bundle told modules)
program_is_compiled bundle told modules checked lines order =
    let code = files_code bundle bundle.files told first_tables in
    let sizes = sizes_of code.0 in
    let same : sizes ≡ sizes_told bundle.files told = sizes_are bundle bundle.files told first_tables in
    let sized : length sizes ≡ length bundle.files = ap length same ∙ sizes_count bundle.files told checked.size in
    let count : 0 + length bundle.files ≡ length sizes = omega (arith, sized) in
    let from = λ (k : ℕ) (source : SourceFile) (c : CheckedComponent) (there : slice_get bundle.files k ≡ Some source) (given : slice_get told k ≡ Some c).
    subst (λ m. size_at sizes m ≡ tree_size source.tree c) (shifted k) (ap (λ (s : List Size). size_at s k) same ∙ size_told bundle.files told k source c there given) in
    let made = files_made bundle told checked.size sizes same 0 bundle.files told first_tables count checked.each from lines (first_sound sizes) in
    let whole = program bundle told modules in
    let tables = code.1 in
    let alone = counted sizes 0 tables in
    record {
      files = all_mono (IsFileIn bundle told checked.size sizes same tables) (IsFile whole) (λ f h. record { lines = h.lines; code = h.code }) code.0 made.each;
      functions = all_mono (λ (f : Function). AreSomewhere (functions_alone sizes (size_at sizes 0) (length tables.functions)) (of_function f)) (λ f. AreInFile whole (of_function f)) (λ f h. record { file = h.file; there = all_there sizes tables h.file (of_function f) h.there }) tables.functions made.sound.functions.closed;
      tags = all_mono (λ t. AreSomewhere alone (of_tag t)) (λ t. AreInFile whole (of_tag t)) (λ t h. record { file = h.file; there = h.there }) tables.tags made.sound.tags;
      handlers = all_mono (λ x. AreSomewhere alone (of_handler x)) (λ x. AreInFile whole (of_handler x)) (λ x h. record { file = h.file; there = h.there }) tables.handlers made.sound.handlers;
      modules = subst (All (IsModule code.0)) (sym order.are) (modules_are bundle told first_tables order.visited checked.size);
      within = parts_within bundle told modules checked;
      contents = contents_seen bundle told modules checked;
    }
