-- What files give to those that import from them between braces (ECMA-262, 16.2.3).
use Rattle.std.specs.Prelude.{true, List, [], ◌∷◌, map}
use Rattle.std.specs.List.{flat_map}
use Rattle.sv_ast.specs.declared.files.FileTree.{FileTree}
use Rattle.sv_ast.specs.declared.files.FileTree.TheVariants as tree
use Rattle.sv_ast.specs.declared.files.SourceFile.{SourceFile}
use Rattle.sv_ast.specs.declared.names.Ref.{Ref}
use Rattle.sv_ast.specs.declared.script_tree.Decl.{Decl, out-Decl}
use Rattle.sv_ast.specs.declared.script_tree.Stmt.{Stmt}
use Rattle.sv_ast.specs.declared.script_tree.StmtKind.{StmtKind-F, out-StmtKind}
use Rattle.sv_names.specs.Distinct.{firsts}
use Rattle.sv_names.specs.Uses.{named}
use Rattle.sv_imports.specs.Imports.{StmtLayer}

abbrev pub decl_names : List Decl → List Ref
decl_names decls = map (λ d. named (out-Decl d).name) decls

abbrev pub exported_layer : StmtLayer → List Ref
exported_layer (StmtKind-F.Const decls true) = decl_names decls
exported_layer (StmtKind-F.Func name true params body) = named name ∷ []
exported_layer _ = []

-- the names that a statement exports: those of `export const` and `export function`
abbrev pub exported : Stmt → List Ref
exported s = exported_layer (out-StmtKind s.kind)

abbrev pub all_exported : List Stmt → List Ref
all_exported stmts = flat_map exported stmts

-- the names that a file gives; a component gives none
abbrev pub given_by : FileTree → List Ref
given_by (tree.Component c) = []
given_by (tree.Module m) = all_exported m.script.stmts

-- for each file the names that it gives, each once
abbrev pub given_names : List SourceFile → List (List Ref)
given_names files = map (λ source. firsts (given_by source.tree)) files
