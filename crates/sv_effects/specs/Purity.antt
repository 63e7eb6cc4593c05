-- What in a file is as a pure function: the names that stand for one, and the arrows whose bodies are as that of one.
use Rattle.std.specs.Prelude.{Bool, false, not, List}
use Rattle.std.specs.List.{list_any}
use Rattle.sv_ast.specs.declared.names.Ref.{Ref}
use Rattle.sv_ast.specs.declared.script_tree.Expr.{Expr}
use Rattle.sv_ast.specs.declared.script_tree.Stmt.{Stmt}
use Rattle.sv_base.specs.Names.{Table}
use Rattle.sv_names.specs.Distinct.{has, firsts}
use Rattle.sv_effects.specs.declared.notes.Sign.{Sign}
use Rattle.sv_effects.specs.declared.notes.Sign.TheVariants.{Calls, Hands}
use Rattle.sv_effects.specs.declared.purity.Purity.{Purity}
use Rattle.sv_effects.specs.Signs.{arrow_signs}
use Rattle.sv_effects.specs.Stains.{stains}
use Rattle.sv_effects.specs.Top.{top_of}

-- a file with some statements, where some names stand for pure functions
abbrev pub purity_of : List Stmt → List Ref → Purity
purity_of stmts pure = record { top = top_of stmts; functions = firsts pure }

-- a name stands for a pure function
abbrev pub is_pure_name : Purity → Ref → Bool
is_pure_name p name = has name p.functions

-- the function that a sign calls or hands on is pure
abbrev pub calls_pure : Purity → Sign → Bool
calls_pure p (Calls name) = is_pure_name p name
calls_pure p (Hands name) = is_pure_name p name
calls_pure p _ = false

abbrev pub stains_beside : Table → Purity → Sign → Bool
stains_beside table p s = stains table p.top (calls_pure p s) s

-- the body of an arrow isn't stained, and calls pure functions alone
abbrev pub is_pure_arrow : Table → Purity → Expr → Bool
is_pure_arrow table p e = not (list_any (stains_beside table p) (arrow_signs table e))
