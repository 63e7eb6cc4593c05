-- The functions at the top level of files that may be pure: each `function`, and each constant whose value is an arrow. Each is a point,
-- by its place in the list of all.
use Rattle.std.specs.Prelude.{ℕ, suc, Bool, List, [], ◌∷◌, ◌++◌, Option, None, Some}
use Rattle.std.specs.List.{flat_map}
use Rattle.sv_ast.specs.declared.files.Bundle.{Bundle}
use Rattle.sv_ast.specs.declared.files.SourceFile.{SourceFile}
use Rattle.sv_ast.specs.declared.script_tree.Arm.{Arm}
use Rattle.sv_ast.specs.declared.script_tree.Body.{Body}
use Rattle.sv_ast.specs.declared.script_tree.Decl.{Decl, out-Decl}
use Rattle.sv_ast.specs.declared.script_tree.Entry.{Entry}
use Rattle.sv_ast.specs.declared.script_tree.Expr.{Expr}
use Rattle.sv_ast.specs.declared.script_tree.ExprKind.{ExprKind, ExprKind-F, out-ExprKind}
use Rattle.sv_ast.specs.declared.script_tree.Field.{Field}
use Rattle.sv_ast.specs.declared.script_tree.Link.{Link}
use Rattle.sv_ast.specs.declared.script_tree.Stmt.{Stmt}
use Rattle.sv_ast.specs.declared.script_tree.StmtKind.{StmtKind, StmtKind-F, out-StmtKind}
use Rattle.sv_ast.specs.Files.{statements_of}
use Rattle.sv_base.specs.declared.names.Name.{Name}
use Rattle.sv_base.specs.Names.{Table}
use Rattle.sv_effects.specs.declared.functions.Function.{Function}
use Rattle.sv_effects.specs.Signs.{function_signs, arrow_signs}

-- the forms of expressions and statements, one layer of them
abbrev pub Layer : Type 0
Layer = ExprKind-F Body Entry ExprKind Field StmtKind Arm Decl Expr Link Stmt

abbrev pub StmtLayer : Type 0
StmtLayer = StmtKind-F Body Entry ExprKind Field StmtKind Arm Decl Expr Link Stmt

-- a constant, by the form of its value
abbrev pub arrow_layer : Table → ℕ → Name → Bool → Expr → Layer → List Function
arrow_layer table file name exported value (ExprKind-F.Arrow params body) = record { file = file; name = name; exported = exported; signs = arrow_signs table value } ∷ []
arrow_layer table file name exported value _ = []

abbrev pub value_functions : Table → ℕ → Name → Bool → Option Expr → List Function
value_functions table file name exported None = []
value_functions table file name exported (Some value) = arrow_layer table file name exported value (out-ExprKind value.kind)

abbrev pub decl_functions : Table → ℕ → Bool → Decl → List Function
decl_functions table file exported d = value_functions table file (out-Decl d).name.name exported (out-Decl d).first

abbrev pub decls_functions : Table → ℕ → Bool → List Decl → List Function
decls_functions table file exported decls = flat_map (decl_functions table file exported) decls

abbrev pub stmt_layer : Table → ℕ → Stmt → StmtLayer → List Function
stmt_layer table file s (StmtKind-F.Func name exported params body) = record { file = file; name = name.name; exported = exported; signs = function_signs table s } ∷ []
stmt_layer table file s (StmtKind-F.Const decls exported) = decls_functions table file exported decls
stmt_layer table file s _ = []

abbrev pub stmt_functions : Table → ℕ → Stmt → List Function
stmt_functions table file s = stmt_layer table file s (out-StmtKind s.kind)

-- the functions of a file, by its number
abbrev pub file_functions : Table → ℕ → SourceFile → List Function
file_functions table file source = flat_map (stmt_functions table file) (statements_of source.tree)

-- the functions of files, of which the first has a number
abbrev pub functions_from : Table → ℕ → List SourceFile → List Function
functions_from table file [] = []
functions_from table file (source ∷ more) = file_functions table file source ++ functions_from table (suc file) more

abbrev pub functions : Bundle → List Function
functions bundle = functions_from bundle.names 0 bundle.files
