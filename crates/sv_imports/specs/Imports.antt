-- The files that a file imports (ECMA-262, 16.2.2). A file is named by its place in the order of reading.
use Rattle.std.specs.Prelude.{ℕ, List, Option, None, Some, map, position}
use Rattle.std.specs.List.{filter_map}
use Rattle.std.specs.Str.{bytes_eq}
use Rattle.sv_ast.specs.declared.files.SourceFile.{SourceFile}
use Rattle.sv_ast.specs.declared.script_tree.Arm.{Arm}
use Rattle.sv_ast.specs.declared.script_tree.Body.{Body}
use Rattle.sv_ast.specs.declared.script_tree.Decl.{Decl}
use Rattle.sv_ast.specs.declared.script_tree.Entry.{Entry}
use Rattle.sv_ast.specs.declared.script_tree.Expr.{Expr}
use Rattle.sv_ast.specs.declared.script_tree.ExprKind.{ExprKind}
use Rattle.sv_ast.specs.declared.script_tree.Field.{Field}
use Rattle.sv_ast.specs.declared.script_tree.Link.{Link}
use Rattle.sv_ast.specs.declared.script_tree.Stmt.{Stmt}
use Rattle.sv_ast.specs.declared.script_tree.StmtKind.{StmtKind, StmtKind-F, out-StmtKind}
use Rattle.sv_ast.specs.Files.{statements_of, name_in}

-- the form of a statement, one layer of it
abbrev pub StmtLayer : Type 0
StmtLayer = StmtKind-F Body Entry ExprKind Field StmtKind Arm Decl Expr Link Stmt

abbrev pub file_of_name : List SourceFile → Option (List ℕ) → Option ℕ
file_of_name files None = None
file_of_name files (Some name) = position (λ source. bytes_eq source.name name) files

-- the file that an import names, where it is there
abbrev pub file_named : List SourceFile → List ℕ → Option ℕ
file_named files from = file_of_name files (name_in from)

abbrev pub target_layer : List SourceFile → StmtLayer → Option ℕ
target_layer files (StmtKind-F.Import i) = file_named files i.from
target_layer files _ = None

-- the file that a statement imports
abbrev pub target : List SourceFile → Stmt → Option ℕ
target files s = target_layer files (out-StmtKind s.kind)

-- the files that a file imports, in the order of its statements
abbrev pub targets : List SourceFile → SourceFile → List ℕ
targets files source = filter_map (target files) (statements_of source.tree)

-- for each file those that it imports
abbrev pub imports : List SourceFile → List (List ℕ)
imports files = map (targets files) files
