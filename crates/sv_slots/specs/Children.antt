-- The components that the tags of a file stand for: those that imports without braces name (Svelte 4 docs, 'Svelte components').
use Rattle.std.specs.Prelude.{ℕ, List, [], ◌∷◌, Option, None, Some}
use Rattle.std.specs.List.{flat_map}
use Rattle.sv_ast.specs.declared.files.SourceFile.{SourceFile}
use Rattle.sv_ast.specs.declared.names.Named.{Named}
use Rattle.sv_ast.specs.declared.names.Ref.{Ref}
use Rattle.sv_ast.specs.declared.script_tree.Stmt.{Stmt}
use Rattle.sv_ast.specs.declared.script_tree.StmtKind.{StmtKind-F, out-StmtKind}
use Rattle.sv_names.specs.NameMap.{Entries, with_entries}
use Rattle.sv_names.specs.Uses.{named}
use Rattle.sv_imports.specs.Imports.{StmtLayer, file_named}

abbrev pub whole_point : Option Named → Option ℕ → Entries
whole_point None file = []
whole_point (Some whole) None = []
whole_point (Some whole) (Some file) = (named whole, file) ∷ []

abbrev pub points_layer : List SourceFile → StmtLayer → Entries
points_layer files (StmtKind-F.Import i) = whole_point i.whole (file_named files i.from)
points_layer files _ = []

-- the name that a statement gives a file, where it is an import without braces of a file that is there
abbrev pub points_of : List SourceFile → Stmt → Entries
points_of files s = points_layer files (out-StmtKind s.kind)

-- the files that the names of a file's tags stand for
abbrev pub tag_files : List SourceFile → List Stmt → Entries
tag_files files stmts = with_entries [] (flat_map (points_of files) stmts)
