-- Each part of a compiled program reads nothing but what it looks at, and the content of a component's tag looks at nothing but what the tag does.
use Rattle.std.proofs.Common.{◌≡◌, ℕ, zero, suc, true, List, [], ◌∷◌, ◌++◌, Option, None, Some, map, append-nil, refl, sym, ap, subst, slice_get}
use Rattle.sv_ast.specs.declared.files.Bundle.{Bundle}
use Rattle.sv_ast.specs.declared.files.Component.{Component}
use Rattle.sv_ast.specs.declared.files.FileTree.{FileTree}
use Rattle.sv_ast.specs.declared.files.FileTree.TheVariants as tree
use Rattle.sv_ast.specs.declared.files.SourceFile.{SourceFile}
use Rattle.sv_ast.specs.declared.script_tree.Stmt.{Stmt}
use Rattle.sv_ast.specs.declared.names.Ref.{Ref}
use Rattle.sv_check.specs.declared.checked.CheckedComponent.{CheckedComponent}
use Rattle.sv_check.specs.Checked.{IsChecked, AreChecked}
use Rattle.sv_check.specs.Files.{told_scopes}
use Rattle.sv_names.specs.Distinct.{has}
use Rattle.sv_resolve.specs.declared.cells.Scopes.{Scopes}
use Rattle.sv_code.proofs.Each.{each_append, each_mono}
use Rattle.sv_code.specs.declared.parts.Part.{Part}
use Rattle.sv_code.specs.declared.program.Component.{Component as CodeComponent}
use Rattle.sv_code.specs.declared.program.Module.{Module as CodeModule}
use Rattle.sv_code.specs.declared.program.ProgramFile.{ProgramFile}
use Rattle.sv_code.specs.Content as looks
use Rattle.sv_code.specs.Content.{Look, IsTold, SeesView, view_of, IsViewSeen, AreContentsSeen}
use Rattle.sv_code.specs.Names.{Each}
use Rattle.sv_code.specs.Parts.{in_turn, of_frags, of_file, of_tag, of_handler, of_program}
use Rattle.sv_code.specs.Within.{IsWithin, ArePartsWithin}
use Rattle.sv_fragments.specs.declared.around.Tables.{Tables}
use Rattle.sv_fragments.specs.Frags.{fragments}
use Rattle.sv_lower.specs.Lower.{of_stmts}
use Rattle.sv_lower.specs.Tops.{known_in}
use Rattle.sv_scopes.specs.declared.scope.TheConstants.{VIEW}
use Rattle.sv_within.proofs.Keeping.{stay, view_stays, all_told, grows_not, grows_onward, more_functions, tables_stay}
use Rattle.sv_within.proofs.Markup.{markup_within}
use Rattle.sv_within.proofs.Scripts.{script_adds}
use Rattle.sv_within.specs.Slots.{have_slot}
use Rattle.sv_within.specs.Staying.{StaysWithin, AreWithin, Begins, Grows, IsViewOf, IsRight}
use Rattle.sv_compile.specs.Compile.{around, component, module_code, tree_code, file, files_code, first_tables, program}
use Rattle.sv_compile.specs.Constants.{givens}
use Rattle.sv_compile.specs.TopLevel.{tops, cell_of}
use Rattle.sv_compile.proofs.Topmost.{top_of}
use Rattle.sv_compile.proofs.Views.{view_is_cell, view_known}

-- ---- files

-- what was made of a file behind some tables, which has a cell for the owner's view or none
pub record IsFileWithin {A : Type 0} (parts_of : A → List Part) (looks_of : A → List Look) (view : A → Option ℕ) (before : Tables) (made : A × Tables) : Type 0 where
  pub grows : Grows before made.1
  pub parts : Each (StaysWithin made.1.functions) (parts_of made.0)
  pub told : Each (IsTold made.1.tags made.1.handlers) (looks_of made.0)
  pub views : (depth : ℕ) → Each (SeesView made.1.tags (view made.0) depth) (looks_of made.0)
  pub tables : AreWithin made.1

-- a component has the owner's view among its cells where there is a `<slot>` in its markup
abbrev Shows : Component → CheckedComponent → Type 0
Shows c told = have_slot c.nodes ≡ true → has VIEW told.scopes.cells ≡ true

abbrev ShowsTree : FileTree → CheckedComponent → Type 0
ShowsTree (tree.Component c) told = Shows c told
ShowsTree (tree.Module m) told = Unit {0}

-- the cell for which its name stands is that
view_of_cells : (bundle : Bundle) (stmts : List Stmt) (cells : List Ref) → has VIEW cells ≡ true → IsViewOf cells (cell_of (known_in (tops bundle.names cells (givens bundle.names bundle.files stmts)).known VIEW))
view_of_cells bundle stmts cells h =
    let found = view_known bundle.names cells (givens bundle.names bundle.files stmts) h in
    record { cell = found.cell; is = ap cell_of found.is; stands = (top_of bundle.names bundle.files cells stmts).cell VIEW found.cell found.is }

component_within : (bundle : Bundle) (c : Component) (told : CheckedComponent) (before : Tables) → Shows c told → AreWithin before
    → IsFileWithin (λ (made : CodeComponent). of_frags made.markup) (λ made. looks.of_frags made.markup []) (λ made. made.view) before (component bundle c told before)
unfolding component
component_within bundle c told before shows sound =
    let stmts = c.script.stmts in
    let top = tops bundle.names told.scopes.cells (givens bundle.names bundle.files stmts) in
    let here = around bundle.files stmts told top in
    let script = script_adds top stmts before.functions in
    let functions = (of_stmts stmts top [] before.functions).1 in
    let more : Begins before.functions functions = record { added = script.added; is = script.is } in
    let middle : Tables = record before { functions = functions } in
    let is_top = top_of bundle.names bundle.files told.scopes.cells stmts in
    let markup = markup_within here is_top c.nodes shows [] refl middle (tables_stay before functions more sound) in
    let after = fragments c.nodes here [] middle in
    record {
      grows = grows_onward before middle after.1 (more_functions before functions more) markup.grows;
      parts = markup.parts;
      told = each_mono (IsRight here.cells after.1) (IsTold after.1.tags after.1.handlers) (λ look is. is.told) (looks.of_frags after.0 []) (markup.looks []);
      views = λ depth. each_mono (IsRight here.cells after.1) (SeesView after.1.tags (cell_of (known_in top.known VIEW)) depth)
          (λ look right. right.views (cell_of (known_in top.known VIEW)) (view_of_cells bundle stmts told.scopes.cells) depth) (looks.of_frags after.0 []) (markup.looks []);
      tables = markup.tables;
    }

module_within : (bundle : Bundle) (stmts : List Stmt) (before : Tables) → AreWithin before → IsFileWithin (λ (made : CodeModule). []) (λ made. []) (λ made. None) before (module_code bundle stmts before)
unfolding module_code
module_within bundle stmts before sound =
    let top = tops bundle.names [] (givens bundle.names bundle.files stmts) in
    let script = script_adds top stmts before.functions in
    let functions = (of_stmts stmts top [] before.functions).1 in
    let more : Begins before.functions functions = record { added = script.added; is = script.is } in
    record { grows = more_functions before functions more; parts = tt; told = tt; views = λ depth. tt; tables = tables_stay before functions more sound }

-- the cells that are told of a file are such
shown : (t : FileTree) (told : CheckedComponent) → told.scopes ≡ told_scopes t → ShowsTree t told
shown (tree.Component c) told is = λ h. subst (λ (s : Scopes). has VIEW s.cells ≡ true) (sym is) (view_is_cell c h)
shown (tree.Module m) told is = tt

tree_within : (bundle : Bundle) (t : FileTree) (told : CheckedComponent) (before : Tables) → ShowsTree t told → AreWithin before → IsFileWithin of_file looks.of_file view_of before (tree_code bundle t told before)
tree_within bundle (tree.Component c) told before shows sound =
    let made = component_within bundle c told before shows sound in record { grows = made.grows; parts = made.parts; told = made.told; views = made.views; tables = made.tables }
tree_within bundle (tree.Module m) told before shows sound = let made = module_within bundle m.script.stmts before sound in record { grows = made.grows; parts = tt; told = tt; views = λ depth. tt; tables = made.tables }

abbrev of_files : List ProgramFile → List Part
of_files files = in_turn (map (λ f. of_file f.code) files)

-- a file in which each look is told
abbrev IsFileTold : Tables → ProgramFile → Type 0
IsFileTold t f = Each (IsTold t.tags t.handlers) (looks.of_file f.code)

-- what was made of some files behind some tables
pub record AreFilesWithin (before : Tables) (made : List ProgramFile × Tables) : Type 0 where
  pub grows : Grows before made.1
  pub parts : Each (StaysWithin made.1.functions) (of_files made.0)
  pub told : Each (IsFileTold made.1) made.0
  pub views : Each (λ f. IsViewSeen made.1.tags f.code) made.0
  pub tables : AreWithin made.1

-- what is told of each of some files
abbrev AreTold : List SourceFile → List CheckedComponent → Type 0
AreTold sources told = (n : ℕ) (source : SourceFile) (c : CheckedComponent) → slice_get sources n ≡ Some source → slice_get told n ≡ Some c → IsChecked source c

files_within : (bundle : Bundle) (sources : List SourceFile) (told : List CheckedComponent) (before : Tables) → AreTold sources told → AreWithin before → AreFilesWithin before (files_code bundle sources told before)
files_within bundle [] told before is sound = record { grows = grows_not before; parts = tt; told = tt; views = tt; tables = sound }
files_within bundle (s ∷ sources) [] before is sound = record { grows = grows_not before; parts = tt; told = tt; views = tt; tables = sound }
files_within bundle (s ∷ sources) (t ∷ told) before is sound =
    let made = file bundle s t before in
    let own = tree_within bundle s.tree t before (shown s.tree t (is zero s t refl refl).scopes_are) sound in
    let more = files_code bundle sources told made.1 in
    let rest = files_within bundle sources told made.1 (λ n. is (suc n)) own.tables in
    let view = view_of made.0.code in
    record {
      grows = grows_onward before made.1 more.1 own.grows rest.grows;
      parts = each_append (StaysWithin more.1.functions) (of_file made.0.code) (of_files more.0) (stay made.1.functions more.1.functions rest.grows.functions (of_file made.0.code) own.parts) rest.parts;
      told = (all_told made.1 more.1 rest.grows (looks.of_file made.0.code) own.told, rest.told);
      views = (
        λ depth. each_mono (SeesView made.1.tags view depth) (SeesView more.1.tags view depth) (view_stays made.1.tags more.1.tags rest.grows.tags view depth) (looks.of_file made.0.code) (own.views depth),
        rest.views,
      );
      tables = rest.tables;
    }

-- ---- programs

each_in_turn : {A : Type 0} (P : Part → Type 0) (parts_of : A → List Part) (xs : List A) → Each (λ x. Each P (parts_of x)) xs → Each P (in_turn (map parts_of xs))
each_in_turn P parts_of [] h = tt
each_in_turn P parts_of (x ∷ xs) h = each_append P (parts_of x) (in_turn (map parts_of xs)) h.0 (each_in_turn P parts_of xs h.1)

all_within : (bundle : Bundle) (told : List CheckedComponent) → AreChecked bundle told → AreFilesWithin first_tables (files_code bundle bundle.files told first_tables)
all_within bundle told checked = files_within bundle bundle.files told first_tables checked.each (record { tags = tt; handlers = tt; seen = tt; told = tt })

pub parts_within : (bundle : Bundle) (told : List CheckedComponent) (modules : List ℕ) → AreChecked bundle told → ArePartsWithin (program bundle told modules)
parts_within bundle told modules checked =
    let p = program bundle told modules in
    let made = all_within bundle told checked in
    let Stays = StaysWithin p.functions in
    let all : Each Stays (of_program p) =
    each_append Stays (of_files p.files) (in_turn (map of_tag p.tags) ++ in_turn (map of_handler p.handlers)) made.parts
    (each_append Stays (in_turn (map of_tag p.tags)) (in_turn (map of_handler p.handlers)) (each_in_turn Stays of_tag p.tags made.tables.tags) (each_in_turn Stays of_handler p.handlers made.tables.handlers)) in
    each_mono Stays (IsWithin p) (λ part h. h p [] (sym (append-nil p.functions))) (of_program p) all

pub contents_seen : (bundle : Bundle) (told : List CheckedComponent) (modules : List ℕ) → AreChecked bundle told → AreContentsSeen (program bundle told modules)
contents_seen bundle told modules checked = let made = all_within bundle told checked in record { tags = made.tables.seen; markup = made.told; inside = made.tables.told; views = made.views }
