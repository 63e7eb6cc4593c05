-- The files that a file imports.
use Rattle.std.specs.Prelude.{ℕ, Bool, List, Option, None, codes, nat_eq}
use Rattle.std.specs.List.{filter_map, ends_with}
use Rattle.sv_ast.specs.declared.files.FileTree.{FileTree}
use Rattle.sv_ast.specs.declared.script_tree.Stmt.{Stmt}
use Rattle.sv_ast.specs.declared.script_tree.StmtKind.{StmtKind}
use Rattle.sv_ast.specs.declared.script_tree.StmtKind.TheVariants.{Import}
use Rattle.sv_ast.specs.Files.{statements_of, name_in}

abbrev pub kind_names : StmtKind → Option (List ℕ)
kind_names (Import import) = name_in import.from
kind_names _ = None

-- the file that a statement names, which only an import does
abbrev pub file_of : Stmt → Option (List ℕ)
file_of stmt = kind_names stmt.kind

-- the names of the files that a file imports, in source order
abbrev pub imports : FileTree → List (List ℕ)
imports tree = filter_map file_of (statements_of tree)

-- a module is a file whose name ends so; others are components
abbrev pub is_module : List ℕ → Bool
is_module name = ends_with nat_eq name (codes ".js")
