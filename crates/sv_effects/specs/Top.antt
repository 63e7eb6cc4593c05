-- What the top level of a file declares.
use Rattle.std.specs.Prelude.{Bool, not, ◌&&◌, ◌||◌, List, [], ◌∷◌, map, false}
use Rattle.std.specs.List.{flat_map}
use Rattle.sv_ast.specs.declared.names.Ref.{Ref}
use Rattle.sv_ast.specs.declared.names.Ref.TheVariants.{Plain, Store}
use Rattle.sv_ast.specs.declared.operators.AssignOp.TheVariants as op
use Rattle.sv_ast.specs.declared.script_tree.Decl.{Decl, out-Decl}
use Rattle.sv_ast.specs.declared.script_tree.ExprKind.{ExprKind-F, out-ExprKind}
use Rattle.sv_ast.specs.declared.script_tree.Stmt.{Stmt}
use Rattle.sv_ast.specs.declared.script_tree.StmtKind.{StmtKind-F, out-StmtKind}
use Rattle.sv_names.specs.Distinct.{has, firsts}
use Rattle.sv_names.specs.Uses.{named}
use Rattle.sv_base.specs.BuiltIn.{conversions}
use Rattle.sv_base.specs.Names.{Table, is_one_of}
use Rattle.sv_effects.specs.declared.top.Top.{Top}
use Rattle.sv_effects.specs.Functions.{Layer, StmtLayer}
use Rattle.sv_effects.specs.Signs.{stmt_part}

abbrev pub decl_names : List Decl → List Ref
decl_names decls = map (λ d. named (out-Decl d).name) decls

abbrev pub variable_layer : StmtLayer → List Ref
variable_layer (StmtKind-F.Let decls) = decl_names decls
variable_layer (StmtKind-F.Export decls) = decl_names decls
variable_layer _ = []

-- the names that a statement declares by `let` or `export let`
abbrev pub stmt_variables : Stmt → List Ref
stmt_variables s = variable_layer (out-StmtKind s.kind)

-- the names that statements declare so
abbrev pub variables : List Stmt → List Ref
variables stmts = flat_map stmt_variables stmts

abbrev pub assigned_layer : Layer → List Ref
assigned_layer (ExprKind-F.Assign name op.Set value) = name ∷ []
assigned_layer _ = []

abbrev pub evaluated_layer : StmtLayer → List Ref
evaluated_layer (StmtKind-F.Eval e) = assigned_layer (out-ExprKind e.kind)
evaluated_layer _ = []

abbrev pub reactive_layer : StmtLayer → List Ref
reactive_layer (StmtKind-F.React s) = evaluated_layer (out-StmtKind s.kind)
reactive_layer _ = []

-- the name `x` of a statement `$: x = e` (Svelte 4 docs, '$: marks a statement as reactive')
abbrev pub reactive : Stmt → List Ref
reactive s = reactive_layer (out-StmtKind s.kind)

abbrev pub reactives : List Stmt → List Ref
reactives stmts = flat_map reactive stmts

-- the names that statements declare by any form
abbrev pub declared : List Stmt → List Ref
declared stmts = flat_map (λ s. (stmt_part s).declares) stmts

-- what the top level of a file with some statements declares
abbrev pub top_of : List Stmt → Top
top_of stmts = record { declared = firsts (declared stmts); variables = firsts (variables stmts); reactives = firsts (reactives stmts) }

-- a name is that of a variable
abbrev pub is_variable : Top → Ref → Bool
is_variable top name = has name top.variables || (has name top.reactives && not (has name top.declared))

-- a name is `String` or `Boolean`
abbrev pub is_conversion : Table → Ref → Bool
is_conversion table (Plain name) = is_one_of table conversions name
is_conversion table (Store name) = false

-- the name is such a one, and the file doesn't declare it anew
abbrev pub is_free_call : Table → Top → Ref → Bool
is_free_call table top name = is_conversion table name && (not (has name top.declared) && not (has name top.reactives))
