-- What is known by name inside scopes.
use Rattle.std.specs.Prelude.{List, map, ◌++◌}
use Rattle.sv_ast.specs.declared.names.Named.{Named}
use Rattle.sv_ast.specs.declared.names.Ref.{Ref}
use Rattle.sv_ast.specs.declared.script_tree.Stmt.{Stmt}
use Rattle.sv_names.specs.Uses.{named}
use Rattle.sv_purity.specs.declared.scope.Known.{Known}
use Rattle.sv_purity.specs.declared.scope.Scope.{Scope, Top, Listed, Hiding', Inner'}
use Rattle.sv_purity.specs.Pure.{together, stmt_part, hiding}

-- the names of a scope with some parameters and statements
abbrev pub declared_by : List Named → List Stmt → List Ref
declared_by params stmts = map named params ++ (together (map stmt_part stmts)).declares

-- what is known and hidden by no scope
abbrev pub visible : Scope → Known
visible (Top known) = known.now
visible (Listed functions conversions) = record { functions = functions.now; conversions = conversions.now }
visible (Hiding' p outer names) = hiding names.now (visible outer)
visible (Inner' p outer params stmts) = hiding (declared_by params.now stmts.now) (visible outer)
