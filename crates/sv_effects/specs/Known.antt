-- The functions that are known in a file by name: its own ones, and those that it imports between braces from modules that give them
-- (ECMA-262, 16.2).
use Rattle.std.specs.Prelude.{ℕ, suc, ◌==◌, ◌&&◌, ◌||◌, not, Bool, true, false, List, [], ◌∷◌, ◌++◌, Option, None, Some, map, filter, length, position, slice_index_or, if◌then◌else◌}
use Rattle.std.specs.List.{flat_map, range_with_len}
use Rattle.std.specs.Str.{bytes_eq}
use Rattle.sv_ast.specs.declared.files.Bundle.{Bundle}
use Rattle.sv_ast.specs.declared.files.SourceFile.{SourceFile}
use Rattle.sv_ast.specs.declared.names.Ref.{Ref}
use Rattle.sv_ast.specs.declared.names.Ref.TheVariants.{Plain}
use Rattle.sv_ast.specs.declared.script_tree.Import.{Import}
use Rattle.sv_ast.specs.declared.script_tree.ImportName.{ImportName}
use Rattle.sv_ast.specs.declared.script_tree.Stmt.{Stmt}
use Rattle.sv_ast.specs.declared.script_tree.StmtKind.{StmtKind-F, out-StmtKind}
use Rattle.sv_ast.specs.Files.{statements_of, is_module, name_in}
use Rattle.sv_names.specs.NameMap.{Entries, number_of, with_entries}
use Rattle.sv_names.specs.Uses.{named}
use Rattle.sv_effects.specs.declared.functions.Function.{Function}
use Rattle.sv_effects.specs.Functions.{StmtLayer, functions}

-- the names that stand for others than some functions
abbrev pub names_without : (ℕ → Bool) → Entries → List Ref
names_without some_functions points = map (λ k. k.0) (filter (λ k. not (some_functions k.1)) points)

-- the names of those of some functions that pass a test, where the first has a number
abbrev pub names_from : (Function → Bool) → ℕ → List Function → Entries
names_from test p [] = []
names_from test p (f ∷ fs) = (if test f then (Plain f.name, p) ∷ [] else []) ++ names_from test (suc p) fs

-- a function is one of a file, and perhaps one that it gives to others
abbrev pub is_of : Bool → ℕ → Function → Bool
is_of only_given file f = (f.exported || not only_given) && f.file == file

-- the functions of a file, or those alone that it gives to others
abbrev pub own : Bool → List Function → ℕ → Entries
own only_given fs file = with_entries [] (names_from (is_of only_given file) 0 fs)

-- the statements of a file of a bundle, by its number
abbrev pub stmts_at : List SourceFile → ℕ → List Stmt
stmts_at files file = slice_index_or (map (λ source. statements_of source.tree) files) file []

abbrev pub module_of_name : List SourceFile → Option (List ℕ) → Option ℕ
module_of_name files None = None
module_of_name files (Some name) = position (λ source. is_module source.tree && bytes_eq source.name name) files

-- the module that an import names, where it is there
abbrev pub module_at : List SourceFile → List ℕ → Option ℕ
module_at files from = module_of_name files (name_in from)

-- a name between the braces of an import, where it is that of a function that a module gives
abbrev pub with_local : ImportName → Option ℕ → Entries
with_local spec None = []
with_local spec (Some p) = (named spec.local, p) ∷ []

-- the same, where a module gives these functions
abbrev pub named_by : Entries → ImportName → Entries
named_by given spec = with_local spec (number_of given (named spec.given))

abbrev pub given_name : List Entries → Option ℕ → ImportName → Entries
given_name given None spec = []
given_name given (Some file) spec = named_by (slice_index_or given file []) spec

abbrev pub given_names : List SourceFile → List Entries → Import → Entries
given_names files given i = flat_map (given_name given (module_at files i.from)) i.names

abbrev pub import_layer : List SourceFile → List Entries → StmtLayer → Entries
import_layer files given (StmtKind-F.Import i) = given_names files given i
import_layer files given _ = []

-- the functions that a statement imports
abbrev pub stmt_imported : List SourceFile → List Entries → Stmt → Entries
stmt_imported files given s = import_layer files given (out-StmtKind s.kind)

abbrev pub imported : List SourceFile → List Entries → List Stmt → Entries
imported files given stmts = flat_map (stmt_imported files given) stmts

-- the functions that are given, file by file
abbrev pub all_given : Bundle → List Entries
all_given bundle = map (own true (functions bundle)) (range_with_len 0 (length bundle.files))

-- the functions that are known in a file by name: its own ones, and then those that it imports
abbrev pub known : Bundle → ℕ → Entries
known bundle file = with_entries (own false (functions bundle) file) (imported bundle.files (all_given bundle) (stmts_at bundle.files file))
