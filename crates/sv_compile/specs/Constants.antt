-- The constants of a file: its `const`s and functions, and the names that it imports from elsewhere.
use Rattle.std.specs.Prelude.{ℕ, suc, Bool, ◌==◌, List, [], ◌∷◌, ◌++◌, Option, None, Some, map, option_map, position, slice_get, if◌then◌else◌}
use Rattle.std.specs.List.{filter_map, flat_map}
use Rattle.sv_ast.specs.declared.files.FileTree.{FileTree}
use Rattle.sv_ast.specs.declared.files.FileTree.TheVariants as tree
use Rattle.sv_ast.specs.declared.files.SourceFile.{SourceFile}
use Rattle.sv_ast.specs.declared.names.Named.{Named}
use Rattle.sv_ast.specs.declared.script_tree.Decl.{Decl, out-Decl}
use Rattle.sv_ast.specs.declared.script_tree.ImportName.{ImportName}
use Rattle.sv_ast.specs.declared.script_tree.Stmt.{Stmt}
use Rattle.sv_ast.specs.declared.script_tree.StmtKind.{StmtKind-F, out-StmtKind}
use Rattle.sv_base.specs.BuiltIn.{life_functions}
use Rattle.sv_base.specs.Names.{Table, is_text, is_one_of}
use Rattle.sv_base.specs.declared.names.Name.{Name}
use Rattle.sv_code.specs.declared.known.Known.{Known}
use Rattle.sv_code.specs.declared.known.Known.TheVariants as known
use Rattle.sv_code.specs.declared.known.Life.{Life}
use Rattle.sv_compile.specs.declared.constants.Given.{Given}
use Rattle.sv_compile.specs.declared.imports.TheConstants.{LIVES}
use Rattle.sv_imports.specs.Imports.{StmtLayer}
use Rattle.sv_imports.specs.Language.{derived_functions, is_store_function}
use Rattle.sv_imports.specs.Unknown.{origin_of}
use Rattle.sv_imports.specs.declared.origin.Origin.{Origin}
use Rattle.sv_imports.specs.declared.origin.Origin.TheVariants as origin

abbrev pub same_name : Name → Name → Bool
same_name a b = a.0 == b.0

-- ---- what a file declares

abbrev pub decl_name : Decl → Named
decl_name d = (out-Decl d).name

abbrev pub constant_layer : StmtLayer → List Named
constant_layer (StmtKind-F.Const decls exported) = map decl_name decls
constant_layer (StmtKind-F.Func name exported params body) = name ∷ []
constant_layer _ = []

-- the constants that a statement declares
abbrev pub constants_of : Stmt → List Named
constants_of s = constant_layer (out-StmtKind s.kind)

-- those of a file, in the order of their declarations
abbrev pub all_constants : List Stmt → List Named
all_constants stmts = flat_map constants_of stmts

-- each with its number, where the first has some number
abbrev pub numbered_from : ℕ → List Named → List Given
numbered_from n [] = []
numbered_from n (name ∷ names) = record { named = name; known = known.Constant n } ∷ numbered_from (suc n) names

-- ---- what a file imports

-- what `svelte` gives under a name, where texts stand for some of it
abbrev pub life_among : Table → List (List ℕ) → List Life → Name → Option Known
life_among table (text ∷ texts) (life ∷ lives) name = if is_text table text name then Some (known.Life life) else life_among table texts lives name
life_among table _ _ name = None

-- which constant of a file has a name; a component gives none
abbrev pub place_in : FileTree → Name → Option ℕ
place_in (tree.Component c) name = None
place_in (tree.Module m) name = position (λ c. same_name c.name name) (all_constants m.script.stmts)

-- what a file gives under a name: a constant of a module
abbrev pub export_of : ℕ → FileTree → Name → Option Known
export_of file t name = option_map (known.Export file) (place_in t name)

abbrev pub export_at : ℕ → Option SourceFile → Name → Option Known
export_at file None name = None
export_at file (Some source) name = export_of file source.tree name

-- what `svelte/store` gives under a name
abbrev pub store_given : Table → Name → Option Known
store_given table name = if is_one_of table derived_functions name then Some known.Derived else (if is_store_function table name then Some known.Writable else None)

-- what an import gives under a name
abbrev pub import_of : Table → List SourceFile → Origin → Name → Option Known
import_of table files origin.Life name = life_among table life_functions LIVES name
import_of table files origin.Stores name = store_given table name
import_of table files (origin.File file) name = export_at file (slice_get files file) name
import_of table files origin.Nowhere name = None

abbrev pub spec_given : Table → List SourceFile → Origin → ImportName → Option Given
spec_given table files from spec = option_map (λ k. record { named = spec.local; known = k }) (import_of table files from spec.given.name)

abbrev pub imported_layer : Table → List SourceFile → StmtLayer → List Given
imported_layer table files (StmtKind-F.Import i) = filter_map (spec_given table files (origin_of files i.from)) i.names
imported_layer table files _ = []

-- the names that a statement imports between braces, but for those that nothing gives
abbrev pub imported : Table → List SourceFile → Stmt → List Given
imported table files s = imported_layer table files (out-StmtKind s.kind)

-- ---- both

-- what the statements of a file declare as constants, and what they import
abbrev pub givens : Table → List SourceFile → List Stmt → List Given
givens table files stmts = numbered_from 0 (all_constants stmts) ++ flat_map (imported table files) stmts
