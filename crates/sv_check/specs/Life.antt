-- Functions of the life of a component that stand where they may not (Svelte 4 docs, 'svelte': they are called while the component is
-- made). They may be called as a whole statement at the top level of a component, or as the whole value of a name that one declares.
use Rattle.std.specs.Prelude.{ℕ, Bool, List, [], Option, None, Some, if◌then◌else◌}
use Rattle.std.specs.List.{flat_map}
use Rattle.sv_ast.specs.declared.script_tree.Decl.{Decl, out-Decl}
use Rattle.sv_ast.specs.declared.script_tree.Expr.{Expr}
use Rattle.sv_ast.specs.declared.script_tree.ExprKind.{ExprKind-F, out-ExprKind}
use Rattle.sv_ast.specs.declared.script_tree.Stmt.{Stmt}
use Rattle.sv_ast.specs.declared.script_tree.StmtKind.{StmtKind-F, out-StmtKind}
use Rattle.sv_base.specs.BuiltIn.{life_functions}
use Rattle.sv_base.specs.Names.{Table}
use Rattle.sv_base.specs.declared.built_in.TheConstants.{LIFE_MODULE}
use Rattle.sv_base.specs.declared.span.Span.{Span}
use Rattle.sv_scopes.specs.declared.scope.Scope.{Scope}
use Rattle.sv_scopes.specs.Script.{Layer, StmtLayer}
use Rattle.sv_check.specs.Called.{name_of_call, with_places, misplaced}
use Rattle.sv_check.specs.Imported.{imported_names}

abbrev pub called_layer : Layer → List ℕ
called_layer (ExprKind-F.Call of args) = name_of_call of
called_layer _ = []

-- the name that is called, where the whole of an expression is the call of a name
abbrev pub called : Expr → List ℕ
called e = called_layer (out-ExprKind e.kind)

abbrev pub called_first : Option Expr → List ℕ
called_first None = []
called_first (Some e) = called e

abbrev pub called_in : List Decl → List ℕ
called_in decls = flat_map (λ d. called_first (out-Decl d).first) decls

abbrev pub free_layer : StmtLayer → List ℕ
free_layer (StmtKind-F.Eval e) = called e
free_layer (StmtKind-F.Let decls) = called_in decls
free_layer (StmtKind-F.Const decls exported) = called_in decls
free_layer (StmtKind-F.Export decls) = called_in decls
free_layer _ = []

abbrev pub free_in : Stmt → List ℕ
free_in s = free_layer (out-StmtKind s.kind)

abbrev pub called_at_top : List Stmt → List ℕ
called_at_top stmts = flat_map free_in stmts

-- the places where such a function may be called: in a module there is none
abbrev pub free_places : Bool → List Stmt → List ℕ
free_places in_component stmts = if in_component then with_places [] (called_at_top stmts) else []

-- at each name of such a function in another place
abbrev pub bad_life_places : Table → Bool → List Stmt → Scope → List Span
bad_life_places table in_component stmts top = misplaced table (imported_names table LIFE_MODULE.now life_functions stmts) (free_places in_component stmts) top.uses
