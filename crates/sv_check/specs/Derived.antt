-- `derived` where it may not stand. It makes a store of other stores and a function (Svelte 4 docs, 'svelte/store'). Where it may be called
-- and with which functions is the project's own rule: as the whole value of a constant at the top of a file, with two arguments, of which
-- the second is a pure function of one parameter.
use Rattle.std.specs.Prelude.{ℕ, ◌==◌, Bool, false, ◌&&◌, List, [], ◌∷◌, Option, None, Some, length, slice_get, if◌then◌else◌}
use Rattle.std.specs.List.{flat_map}
use Rattle.sv_ast.specs.declared.names.Ref.{Ref}
use Rattle.sv_ast.specs.declared.script_tree.Decl.{Decl, out-Decl}
use Rattle.sv_ast.specs.declared.script_tree.Expr.{Expr}
use Rattle.sv_ast.specs.declared.script_tree.ExprKind.{ExprKind-F, out-ExprKind}
use Rattle.sv_ast.specs.declared.script_tree.Stmt.{Stmt}
use Rattle.sv_ast.specs.declared.script_tree.StmtKind.{StmtKind-F, out-StmtKind}
use Rattle.sv_base.specs.Names.{Table}
use Rattle.sv_base.specs.declared.built_in.TheConstants.{STORE_MODULE}
use Rattle.sv_base.specs.declared.span.Span.{Span}
use Rattle.sv_effects.specs.Purity.{purity_of, is_pure_name, is_pure_arrow}
use Rattle.sv_imports.specs.Language.{derived_functions}
use Rattle.sv_names.specs.Distinct.{has, firsts}
use Rattle.sv_names.specs.Uses.{named}
use Rattle.sv_scopes.specs.declared.scope.Scope.{Scope}
use Rattle.sv_scopes.specs.Script.{Layer, StmtLayer}
use Rattle.sv_check.specs.declared.derived.Derivers.{Derivers}
use Rattle.sv_check.specs.Called.{name_of_call, with_places, misplaced}
use Rattle.sv_check.specs.Imported.{imported_names}

-- ---- what may compute a derived store

abbrev pub unary_layer : StmtLayer → List Ref
unary_layer (StmtKind-F.Func name exported params body) = if length params == 1 then named name ∷ [] else []
unary_layer _ = []

-- the name of a function of one parameter that a statement declares
abbrev pub unary : Stmt → List Ref
unary s = unary_layer (out-StmtKind s.kind)

-- what is known of a file with some statements, in which some names stand for pure functions
abbrev pub derivers_of : List Stmt → List Ref → Derivers
derivers_of stmts pure = record { purity = purity_of stmts pure; functions = firsts (flat_map unary stmts) }

abbrev pub computes_layer : Table → Derivers → Expr → Layer → Bool
computes_layer table d e (ExprKind-F.Read name) = has name d.functions && is_pure_name d.purity name
computes_layer table d e (ExprKind-F.Arrow params body) = length params == 1 && is_pure_arrow table d.purity e
computes_layer table d e _ = false

-- the name of a pure function of one parameter, or an arrow of one parameter with a pure body
abbrev pub computes : Table → Derivers → Expr → Bool
computes table d e = computes_layer table d e (out-ExprKind e.kind)

abbrev pub computes_given : Table → Derivers → Option Expr → Bool
computes_given table d None = false
computes_given table d (Some e) = computes table d e

-- these are two arguments, of which the second is such a function
abbrev pub derives : Table → Derivers → List Expr → Bool
derives table d args = length args == 2 && computes_given table d (slice_get args 1)

-- ---- where it may stand, by the place at which the name begins

abbrev pub derivation_layer : Table → Derivers → Layer → List ℕ
derivation_layer table d (ExprKind-F.Call of args) = if derives table d args then name_of_call of else []
derivation_layer table d _ = []

-- the name that is called, where the whole of an expression is the call of a name with such arguments
abbrev pub derivation : Table → Derivers → Expr → List ℕ
derivation table d e = derivation_layer table d (out-ExprKind e.kind)

abbrev pub derivation_first : Table → Derivers → Option Expr → List ℕ
derivation_first table d None = []
derivation_first table d (Some e) = derivation table d e

abbrev pub derivations_in : Table → Derivers → List Decl → List ℕ
derivations_in table d decls = flat_map (λ decl. derivation_first table d (out-Decl decl).first) decls

abbrev pub constant_layer : Table → Derivers → StmtLayer → List ℕ
constant_layer table d (StmtKind-F.Const decls exported) = derivations_in table d decls
constant_layer table d _ = []

abbrev pub derivations_at : Table → Derivers → Stmt → List ℕ
derivations_at table d s = constant_layer table d (out-StmtKind s.kind)

abbrev pub derivation_places : Table → Derivers → List Stmt → List ℕ
derivation_places table d stmts = with_places [] (flat_map (derivations_at table d) stmts)

-- at each `derived` in another place
abbrev pub bad_derived : Table → List Ref → List Stmt → Scope → List Span
bad_derived table pure stmts top = misplaced table (imported_names table STORE_MODULE.now derived_functions stmts) (derivation_places table (derivers_of stmts pure) stmts) top.uses
