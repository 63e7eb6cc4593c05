-- Programs whose functions are those of scripts and of expressions, one behind the other; `writable` comes first.
use Rattle.std.specs.Prelude.{◌≡◌, List, [], ◌∷◌}
use Rattle.sv_ast.specs.declared.names.Ref.{Ref}
use Rattle.sv_ast.specs.declared.script_tree.Expr.{Expr}
use Rattle.sv_ast.specs.declared.script_tree.Stmt.{Stmt}
use Rattle.sv_code.specs.Names.{Each}
use Rattle.sv_code.specs.declared.functions.Function.{Function}
use Rattle.sv_code.specs.declared.functions.FunctionBody.TheVariants.{Writable}
use Rattle.sv_lower.specs.Lower.{of_expr, of_stmts}
use Rattle.sv_lower.specs.Tops.{Tops}
use Rattle.sv_meaning.specs.Env.{Env}
use Rattle.sv_names.specs.Distinct.{has}
use Rattle.sv_source.specs.Functions.{Fun, writable}
use Rattle.sv_source.specs.Open.{IsPlain, AreOfTop, is_open}
use Rattle.sv_source.specs.Script.{of_tree, of_lines}

-- the script of a file, or an expression inside scopes of some locals
pub data Piece : Type 0 where
  Script : Tops → List Stmt → Piece
  Part : Tops → List Ref → Expr → Piece

-- no name is a local at the top of the file, and no scope declares a store name
abbrev pub IsProper : Piece → Type 0
IsProper (Script tops stmts) = AreOfTop tops
IsProper (Part tops locals e) = AreOfTop tops × Each IsPlain locals

-- ---- the functions of code

abbrev pub code_behind : Piece → List Function → List Function
code_behind (Script tops stmts) before = (of_stmts stmts tops [] before).1
code_behind (Part tops locals e) before = (of_expr e tops locals before).1

abbrev pub codes_behind : List Piece → List Function → List Function
codes_behind [] before = before
codes_behind (p ∷ pieces) before = codes_behind pieces (code_behind p before)

abbrev pub code_writable : Function
code_writable = record { span = record { file = 0; from = 0; to = 0 }; params = []; captured = []; declares = []; body = Writable }

abbrev pub codes : List Piece → List Function
codes pieces = codes_behind pieces (code_writable ∷ [])

-- ---- the functions that are written

abbrev pub found_behind : Piece → List Fun → List Fun
found_behind (Script tops stmts) before = (of_lines stmts tops [] before).1
found_behind (Part tops locals e) before = (of_tree e tops locals before).1

abbrev pub all_behind : List Piece → List Fun → List Fun
all_behind [] before = before
all_behind (p ∷ pieces) before = all_behind pieces (found_behind p before)

abbrev pub functions : List Piece → List Fun
functions pieces = all_behind pieces (writable ∷ [])

-- ---- names

-- the names that are open are those that the scopes around declare
abbrev pub Opens : Env → List Ref → Type 0
Opens env locals = (name : Ref) → is_open env name ≡ has name locals
