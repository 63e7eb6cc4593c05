-- The `$` names of a program that is compiled without a mistake are apart.
use Rattle.std.proofs.Common.{◌≡◌, ℕ, zero, suc, ◌+◌, ◌<◌, ◌≤◌, List, [], ◌∷◌, ◌++◌, Option, None, Some, length, map, refl, sym, ap, subst, ◌∙◌, arith}
use Rattle.std.specs.List.{flat_map}
use Rattle.std.specs.Option.{option_and_then}
use Rattle.std.specs.Prelude.{slice_get}
use Rattle.std.proofs.lemmas.Option.{none-some, same_Some, slice_get_within}
use Rattle.sv_ast.specs.declared.files.Bundle.{Bundle}
use Rattle.sv_ast.specs.declared.files.Component.{Component}
use Rattle.sv_ast.specs.declared.files.FileTree.{FileTree}
use Rattle.sv_ast.specs.declared.files.FileTree.TheVariants as tree
use Rattle.sv_ast.specs.declared.files.SourceFile.{SourceFile}
use Rattle.sv_ast.specs.declared.names.Ref.{Ref}
use Rattle.sv_base.specs.Names.{Table}
use Rattle.sv_base.specs.declared.limits.TheConstants.{CELL_LIMIT}
use Rattle.sv_base.specs.declared.span.Span.{Span}
use Rattle.sv_check.specs.Cells.{too_many}
use Rattle.sv_check.specs.Checked.{IsClean, IsChecked, AreChecked}
use Rattle.sv_check.specs.Files.{scopes_of, told_scopes}
use Rattle.sv_check.specs.Mistakes.{at_file, pure_at, known_at_top, impure_in, variables_of, script_mistakes, tag_mistakes, file_mistakes}
use Rattle.sv_check.specs.declared.checked.CheckedComponent.{CheckedComponent}
use Rattle.sv_code.specs.declared.program.Component.{Component as CodeComponent}
use Rattle.sv_code.specs.declared.program.FileCode.{FileCode}
use Rattle.sv_code.specs.declared.program.FileCode.TheVariants as file_code
use Rattle.sv_code.specs.declared.program.ProgramFile.{ProgramFile}
use Rattle.sv_compile.specs.Compile.{component, tree_code, file, files_code, first_tables, program}
use Rattle.sv_fragments.specs.declared.around.Tables.{Tables}
use Rattle.sv_imports.specs.Unknown.{unknown_imports}
use Rattle.sv_meaning.specs.Components.{component_in, component_at}
use Rattle.sv_resolve.specs.Cells.{scopes}
use Rattle.sv_resolve.specs.Mistakes.{again, declared_twice, unknown_names, constant_assigns, captured_assigns, refused, all_scopes, mistakes}
use Rattle.sv_resolve.specs.declared.cells.Scopes.{Scopes}
use Rattle.sv_resolve.specs.declared.refusals.CheckKind.{CheckKind}
use Rattle.sv_resolve.specs.declared.refusals.CheckKind.TheVariants.{DeclaredTwice, UnknownName, AssignConst, CapturedAssign, ImportCycle, UnknownImport, ImpureMarkup, TooManyNames, ReactiveCycle}
use Rattle.sv_scopes.specs.Files.{component_scopes}
use Rattle.sv_scopes.specs.declared.scope.Scope.{Scope}
use Rattle.sv_slots.specs.Sheets.{sheet, sheets}
use Rattle.sv_subscribed.specs.Apart.{IsApart, AreApart}
use Rattle.sv_apart.proofs.Declares.{append-nil-front, append-nil-back, declared-apart, declared_in, name_in}
use Rattle.sv_apart.proofs.Holding.{hold-apart, apart-view, apart-cells, apart-constants, told-apart, once-apart}
use Rattle.sv_apart.proofs.Thinning.{AreToldApart}

-- ---- a component

component_apart : (bundle : Bundle) (c : Component) (told : CheckedComponent) (before : Tables) → told.scopes ≡ told_scopes (tree.Component c) → length told.scopes.cells ≤ CELL_LIMIT → AreToldApart name_in (declared_in c)
    → IsApart (component bundle c told before).0
unfolding component
component_apart bundle c told before scopes_are few apart =
    let table = bundle.names in
    let files = bundle.files in
    let cells = told.scopes.cells in
    let are : cells ≡ (scopes (component_scopes c).top).cells = ap (λ (s : Scopes). s.cells) scopes_are in
    record {
      names = hold-apart table files c cells are apart;
      viewless = λ x cell among view. apart-view table files c cells are apart x cell among view;
      cells = λ x n among holds. apart-cells table files c cells are apart x n few among holds;
      constants = λ x n among holds. apart-constants table files c cells are apart x n among holds;
      told = told-apart table files c cells are apart before.functions;
      once = once-apart table files c cells are apart before.functions;
    }

-- ---- components of a program

-- a component is what one of some files is compiled to
record IsOfFile (bundle : Bundle) (sources : List SourceFile) (all : List CheckedComponent) (n : ℕ) (c : CodeComponent) : Type 0 where
  source : SourceFile
  own : Component
  told : CheckedComponent
  before : Tables
  there : slice_get sources n ≡ Some source
  given : slice_get all n ≡ Some told
  tree_is : source.tree ≡ tree.Component own
  is : c ≡ (component bundle own told before).0

of_tree : (bundle : Bundle) (t : FileTree) (told : CheckedComponent) (before : Tables) (c : CodeComponent) → component_in (tree_code bundle t told before).0 ≡ Some c → (own : Component) × ((t ≡ tree.Component own) × (c ≡ (component bundle own told before).0))
of_tree bundle (tree.Component own) told before c e = (own, (refl, sym (same_Some (component bundle own told before).0 c e)))
of_tree bundle (tree.Module m) told before c e = absurd (none-some c e)

of_files : (bundle : Bundle) (sources : List SourceFile) (all : List CheckedComponent) (before : Tables) (n : ℕ) (c : CodeComponent)
    → option_and_then (λ (f : ProgramFile). component_in f.code) (slice_get (files_code bundle sources all before).0 n) ≡ Some c → IsOfFile bundle sources all n c
of_files bundle [] all before n c e = absurd (none-some c e)
of_files bundle (s ∷ sources) [] before n c e = absurd (none-some c e)
of_files bundle (s ∷ sources) (t ∷ all) before zero c e =
    let found = of_tree bundle s.tree t before c e in
    record { source = s; own = found.0; told = t; before = before; there = refl; given = refl; tree_is = found.1.0; is = found.1.1 }
of_files bundle (s ∷ sources) (t ∷ all) before (suc n) c e =
    let later = of_files bundle sources all (file bundle s t before).1 n c e in
    record { source = later.source; own = later.own; told = later.told; before = later.before; there = later.there; given = later.given; tree_is = later.tree_is; is = later.is }

-- ---- a file without a mistake declares no name twice

none-refused : (kind : CheckKind) (places : List Span) → refused kind places ≡ [] → places ≡ []
none-refused kind [] e = refl
none-refused kind (p ∷ places) e = absurd (cc)

last-none : (table : Table) (front : List Scope) (top : Scope) → flat_map (declared_twice table) (front ++ top ∷ []) ≡ [] → declared_twice table top ≡ []
last-none table [] top e = append-nil-front (declared_twice table top) [] e
last-none table (s ∷ front) top e = last-none table front top (append-nil-back (declared_twice table s) (flat_map (declared_twice table) (front ++ top ∷ [])) e)

third-none : {A : Type 0} (a b c d e f g h : List A) → a ++ b ++ c ++ d ++ e ++ f ++ g ++ h ≡ [] → c ≡ []
third-none a b c d e f g h is =
    append-nil-back (a ++ b) c (append-nil-front (a ++ b ++ c) d (append-nil-front (a ++ b ++ c ++ d) e (append-nil-front (a ++ b ++ c ++ d ++ e) f (append-nil-front (a ++ b ++ c ++ d ++ e ++ f) g (append-nil-front (a ++ b ++ c ++ d ++ e ++ f ++ g) h is)))))

first-none : {A : Type 0} (a b c d : List A) → a ++ b ++ c ++ d ≡ [] → a ≡ []
first-none a b c d is = append-nil-front a b (append-nil-front (a ++ b) c (append-nil-front (a ++ b ++ c) d is))

none-twice : (bundle : Bundle) (cycles : List (List Span)) (pure : List (List Ref)) (n : ℕ) (source : SourceFile) (waiting : List Span) → file_mistakes bundle cycles pure n source waiting ≡ []
    → declared_twice bundle.names (scopes_of source.tree).top ≡ []
none-twice bundle cycles pure n source waiting is =
    let table = bundle.names in
    let t = source.tree in
    let f = scopes_of t in
    let own : mistakes table f ≡ [] =
    third-none (refused ImportCycle (at_file cycles n)) (refused UnknownImport (at_file (unknown_imports bundle) n)) (mistakes table f) (script_mistakes table (pure_at pure n) t)
    (refused ImpureMarkup (impure_in table (known_at_top table (pure_at pure n) t) t)) (tag_mistakes (variables_of t) (sheets bundle) (sheet table bundle.files source)) (refused TooManyNames (too_many table f.top)) (refused ReactiveCycle waiting) is in
    let twice = first-none (refused DeclaredTwice (flat_map (declared_twice table) (all_scopes f))) (refused UnknownName (unknown_names table f.top)) (refused AssignConst (flat_map constant_assigns (all_scopes f))) (refused CapturedAssign (flat_map captured_assigns f.inside)) own in
    last-none table f.inside f.top (none-refused DeclaredTwice (flat_map (declared_twice table) (all_scopes f)) twice)

top-apart : (bundle : Bundle) → IsClean bundle → (n : ℕ) (source : SourceFile) → slice_get bundle.files n ≡ Some source → AreToldApart name_in (scopes_of source.tree).top.declares
top-apart bundle clean n source there =
    let found = clean.clean n (slice_get_within bundle.files n source there) in
    subst (λ (s : SourceFile). AreToldApart name_in (scopes_of s.tree).top.declares) (same_Some found.source source (sym found.there ∙ there))
    (declared-apart bundle.names (scopes_of found.source.tree).top.declares (none-twice bundle clean.cycles clean.pure n found.source found.waiting (sym found.is)))

pub compiled_apart : (bundle : Bundle) (told : List CheckedComponent) (modules : List ℕ) → IsClean bundle → AreChecked bundle told → AreApart (program bundle told modules)
compiled_apart bundle told modules clean checked n c at =
    let of = of_files bundle bundle.files told first_tables n c at in
    let is_checked = checked.each n of.source of.told of.there of.given in
    let apart = subst (λ (t : FileTree). AreToldApart name_in (scopes_of t).top.declares) of.tree_is (top-apart bundle clean n of.source of.there) in
    subst IsApart (sym of.is) (component_apart bundle of.own of.told of.before (is_checked.scopes_are ∙ ap told_scopes of.tree_is) is_checked.few apart)
