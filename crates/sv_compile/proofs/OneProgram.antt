-- What is told of a checked program is told in one way.
use Rattle.std.proofs.Common.{◌≡◌, ℕ, suc, List, [], ◌∷◌, Some, length, refl, sym, ap, subst, ◌∙◌, arith}
use Rattle.std.specs.Prelude.{slice_get}
use Rattle.std.proofs.lemmas.Bool.{true≢false, false≢true}
use Rattle.sv_ast.specs.declared.files.Bundle.{Bundle}
use Rattle.sv_ast.specs.declared.files.Component.{Component}
use Rattle.sv_ast.specs.declared.files.FileTree.{FileTree}
use Rattle.sv_ast.specs.declared.files.FileTree.TheVariants as tree
use Rattle.sv_ast.specs.declared.files.SourceFile.{SourceFile}
use Rattle.sv_check.specs.declared.checked.CheckedComponent.{CheckedComponent}
use Rattle.sv_check.specs.Checked.{IsChecked, AreChecked}
use Rattle.sv_code.specs.declared.program.Component.{Component as CodeComponent}
use Rattle.sv_code.specs.declared.program.FileCode.TheVariants as file_code
use Rattle.std.specs.List.{filter_map}
use Rattle.sv_code.specs.declared.program.ProgramFile.{ProgramFile}
use Rattle.sv_fragments.specs.Builds.{Numbers}
use Rattle.sv_lower.specs.Tops.{known_in}
use Rattle.sv_scopes.specs.declared.scope.TheConstants.{VIEW}
use Rattle.sv_compile.specs.declared.files.Sheet.{Sheet}
use Rattle.sv_compile.specs.Constants.{all_constants, givens}
use Rattle.sv_compile.specs.Holders.{holders}
use Rattle.sv_compile.specs.Sheet.{parts}
use Rattle.sv_compile.specs.TopLevel.{tops, cell_of, prop_of, reactive_cells, stores_from}
use Rattle.sv_resolve.specs.declared.cells.Scopes.{Scopes}
use Rattle.sv_slots.specs.Children.{tag_files}
use Rattle.sv_slots.specs.Sheets.{all_props}
use Rattle.sv_graph.specs.Visits.{with_point, Visits, none, again, first}
use Rattle.sv_compile.specs.Runs.{reactives, runs}
use Rattle.sv_compile.specs.Compile.{component, numbered_one, tree_code, file, files_code, first_tables, program, program_of}

-- points are placed in one way
pub visits_same : {links : ℕ → List ℕ} (placed points a b : List ℕ) → Visits links placed points a → Visits links placed points b → a ≡ b
visits_same _ _ _ _ none none = refl
visits_same _ _ _ _ (again h v) (again h' v') = visits_same _ _ _ _ v v'
visits_same _ _ _ _ (again h v) (first h' v' w') = absurd (true≢false (sym h ∙ h'))
visits_same _ _ _ _ (first h v w) (again h' v') = absurd (false≢true (sym h ∙ h'))
visits_same {links} _ _ a b (first {p} {points} h v w) (first h' v' w') =
    visits_same _ _ a b w (subst (λ x. Visits links (with_point p x) points b) (sym (visits_same _ _ _ _ v v')) w')

component_same : (bundle : Bundle) (c : Component) (a b : CheckedComponent) → a.scopes ≡ b.scopes → a.order.items ≡ b.order.items → component bundle c a ≡ component bundle c b
unfolding component
component_same bundle c a b scopes order =
    let stmts = c.script.stmts in
    let given = givens bundle.names bundle.files stmts in
    let made : Scopes → List ℕ → Numbers CodeComponent =
    λ scopes order.
    let top = tops bundle.names scopes.cells given in
    let own : Sheet = record { cells = scopes.cells; props = filter_map (prop_of top) (all_props stmts); reactive = reactive_cells scopes.cells stmts; stores = stores_from (holders bundle.names top given c) 0 scopes.cells; view = cell_of (known_in top.known VIEW); constants = length (all_constants stmts); runs = runs scopes.cells (reactives stmts) order } in
    parts c own (record { tops = top; cells = scopes.cells; children = tag_files bundle.files stmts }) [] in
    ap (λ s. made s a.order.items) scopes ∙ ap (made b.scopes) order

tree_same : (bundle : Bundle) (t : FileTree) (a b : CheckedComponent) → a.scopes ≡ b.scopes → a.order.items ≡ b.order.items → tree_code bundle t a ≡ tree_code bundle t b
tree_same bundle (tree.Component c) a b scopes order = ap (numbered_one file_code.Component) (component_same bundle c a b scopes order)
tree_same bundle (tree.Module m) a b scopes order = refl

file_same : (bundle : Bundle) (source : SourceFile) (a b : CheckedComponent) → IsChecked source a → IsChecked source b → file bundle source a ≡ file bundle source b
file_same bundle source a b one other =
    let scopes : a.scopes ≡ b.scopes = one.scopes_are ∙ sym other.scopes_are in
    let order : a.order.items ≡ b.order.items = visits_same _ _ a.order.items b.order.items one.order_is other.order_is in
    ap (numbered_one (λ code. record { name = source.name; lines = source.lines; code = code })) (tree_same bundle source.tree a b scopes order)

-- what is told of some files, by their places
abbrev Each : List SourceFile → List CheckedComponent → Type 0
Each sources told = (n : ℕ) (source : SourceFile) (c : CheckedComponent) → slice_get sources n ≡ Some source → slice_get told n ≡ Some c → IsChecked source c

files_same : (bundle : Bundle) (sources : List SourceFile) (ones others : List CheckedComponent) → length ones ≡ length sources → length others ≡ length sources → Each sources ones → Each sources others
    → files_code bundle sources ones ≡ files_code bundle sources others
files_same bundle [] ones others p q one other = refl
files_same bundle (s ∷ sources) [] others p q one other = absurd (omega arith)
files_same bundle (s ∷ sources) (a ∷ ones) [] p q one other = absurd (omega arith)
files_same bundle (s ∷ sources) (a ∷ ones) (b ∷ others) p q one other =
    let own = file_same bundle s a b (one 0 s a refl refl) (other 0 s b refl refl) in
    let rest = files_same bundle sources ones others (omega arith) (omega arith) (λ n. one (suc n)) (λ n. other (suc n)) in
    ap (λ (f : Numbers ProgramFile). λ before. numbered_one (λ more. (f before).0 ∷ more) (files_code bundle sources ones) (f before).1) own
    ∙ ap (λ (r : Numbers (List ProgramFile)). λ before. numbered_one (λ more. (file bundle s b before).0 ∷ more) r (file bundle s b before).1) rest

-- a checked program is compiled to one program
pub program_same : (bundle : Bundle) (a b : List CheckedComponent) → AreChecked bundle a → AreChecked bundle b → (modules : List ℕ) → program bundle a modules ≡ program bundle b modules
program_same bundle a b one other modules = ap (λ (d : Numbers (List ProgramFile)). program_of bundle modules (d first_tables)) (files_same bundle bundle.files a b one.size other.size one.each other.each)
