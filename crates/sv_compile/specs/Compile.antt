-- What a checked program is compiled to: the code of its files, one behind the other, with the functions, component tags and handlers in them.
use Rattle.std.specs.Prelude.{ℕ, List, [], ◌∷◌, length}
use Rattle.sv_ast.specs.declared.files.Bundle.{Bundle}
use Rattle.sv_ast.specs.declared.files.Component.{Component}
use Rattle.sv_ast.specs.declared.files.FileTree.{FileTree}
use Rattle.sv_ast.specs.declared.files.FileTree.TheVariants as tree
use Rattle.sv_ast.specs.declared.files.SourceFile.{SourceFile}
use Rattle.sv_ast.specs.declared.script_tree.Stmt.{Stmt}
use Rattle.sv_check.specs.declared.checked.CheckedComponent.{CheckedComponent}
use Rattle.sv_code.specs.declared.functions.CodeStmt.{CodeStmt}
use Rattle.sv_code.specs.declared.functions.Function.{Function}
use Rattle.sv_code.specs.declared.functions.FunctionBody.TheVariants.{Writable}
use Rattle.sv_code.specs.declared.program.Component.{Component as CodeComponent}
use Rattle.sv_code.specs.declared.program.FileCode.{FileCode}
use Rattle.sv_code.specs.declared.program.FileCode.TheVariants as file_code
use Rattle.sv_code.specs.declared.program.Module.{Module as CodeModule}
use Rattle.sv_code.specs.declared.program.Program.{Program}
use Rattle.sv_code.specs.declared.program.ProgramFile.{ProgramFile}
use Rattle.sv_compile.specs.Constants.{all_constants, givens}
use Rattle.sv_compile.specs.Holders.{holders}
use Rattle.sv_compile.specs.Sheet.{sheet, parts}
use Rattle.sv_compile.specs.TopLevel.{tops}
use Rattle.sv_fragments.specs.declared.around.Tables.{Tables}
use Rattle.sv_fragments.specs.Builds.{Around, Numbers}
use Rattle.sv_lower.specs.Lower.{of_stmts}
use Rattle.sv_lower.specs.Tops.{Tops}
use Rattle.sv_slots.specs.Children.{tag_files}

-- ---- components

-- a component as its code sees it: what names stand for, its cells, and the files that the names of its tags stand for
abbrev pub around : List SourceFile → List Stmt → CheckedComponent → Tops → Around
around files stmts told top = record { tops = top; cells = told.scopes.cells; children = tag_files files stmts }

-- a component: the functions of its script come before those of its markup
unfoldable pub component : Bundle → Component → CheckedComponent → Numbers CodeComponent
component bundle c told =
    let given = givens bundle.names bundle.files c.script.stmts in
    let top = tops bundle.names told.scopes.cells given in
    parts c (sheet top (holders bundle.names top given c) c.script.stmts told) (around bundle.files c.script.stmts told top) []

-- ---- files

-- what is made of one thing that is numbered
abbrev pub numbered_one : {A B : Type 0} → (A → B) → Numbers A → Numbers B
numbered_one make one before = (make (one before).0, (one before).1)

-- the code of a script, where names stand for this
abbrev pub script_code : Tops → List Stmt → Numbers (List CodeStmt)
script_code top stmts before =
    let made = of_stmts stmts top [] before.functions in (made.0, record before { functions = made.1 })

-- a module
unfoldable pub module_code : Bundle → List Stmt → Numbers CodeModule
module_code bundle stmts =
    numbered_one (λ script. record { constants = length (all_constants stmts); script = script }) (script_code (tops bundle.names [] (givens bundle.names bundle.files stmts)) stmts)

abbrev pub tree_code : Bundle → FileTree → CheckedComponent → Numbers FileCode
tree_code bundle (tree.Component c) told = numbered_one file_code.Component (component bundle c told)
tree_code bundle (tree.Module m) told = numbered_one file_code.Module (module_code bundle m.script.stmts)

-- a file
abbrev pub file : Bundle → SourceFile → CheckedComponent → Numbers ProgramFile
file bundle source told = numbered_one (λ code. record { name = source.name; lines = source.lines; code = code }) (tree_code bundle source.tree told)

-- some files in turn, with what is told of each
abbrev pub files_code : Bundle → List SourceFile → List CheckedComponent → Numbers (List ProgramFile)
files_code bundle [] all before = ([], before)
files_code bundle (source ∷ sources) [] before = ([], before)
files_code bundle (source ∷ sources) (told ∷ all) before =
    let own = file bundle source told before in numbered_one (λ more. own.0 ∷ more) (files_code bundle sources all) own.1

-- ---- programs

-- `writable`, which stands in no file
abbrev pub writable : Function
writable = record { span = record { file = 0; from = 0; to = 0 }; params = []; captured = []; declares = []; body = Writable }

-- the tables before the first file
abbrev pub first_tables : Tables
first_tables = record { functions = writable ∷ []; tags = []; handlers = [] }

-- a program, of which some modules run
abbrev pub program_of : Bundle → List ℕ → List ProgramFile × Tables → Program
program_of bundle modules made =
    record { names = bundle.names; files = made.0; functions = made.1.functions; tags = made.1.tags; handlers = made.1.handlers; modules = modules }

abbrev pub program : Bundle → List CheckedComponent → List ℕ → Program
program bundle all modules = program_of bundle modules (files_code bundle bundle.files all first_tables)
