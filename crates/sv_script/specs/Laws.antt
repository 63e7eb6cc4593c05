-- The reader and the grammar agree.
use Rattle.std.specs.Prelude.{◌≡◌, ◌⊎◌, ℕ, List, Ok}
use Rattle.sv_ast.specs.declared.script_tree.Expr.{Expr}
use Rattle.sv_ast.specs.declared.script_tree.Stmt.{Stmt}
use Rattle.sv_lex.specs.Reader.{Input, Parser}
use Rattle.sv_expr.specs.Laws.{IsLimited}
use Rattle.sv_expr.specs.Limits.{Limits}
use Rattle.sv_script.specs.Closed.{ExpressionAt}
use Rattle.sv_script.specs.Script.{bodies, expression}

-- the block of an arrow where there is so much room
abbrev pub arrow_block : Limits → ℕ → Parser (List Stmt)
arrow_block limits room = (bodies limits room).exprs.block

-- expressions, within limits and where so many constructs may enclose one another: how they are read, and the grammar
abbrev pub read_expression : Limits × ℕ → Parser Expr
read_expression within = expression within.0 within.1

abbrev pub IsExpression : Limits × ℕ → Input → Expr → Input → Type 0
IsExpression within = ExpressionAt within.0 within.1

-- what is read is in the grammar
abbrev pub Sound : {L A : Type 0} → (L → Parser A) → (L → Input → A → Input → Type 0) → Type 0
Sound {L} {A} read Is = (limits : L) (i o : Input) (x : A) → read limits i ≡ Ok (x, o) → Is limits i x o

-- what is in the grammar is read
abbrev pub Complete : {L A : Type 0} → (L → Parser A) → (L → Input → A → Input → Type 0) → Type 0
Complete {L} {A} read Is = (limits : L) (i o : Input) (x : A) → Is limits i x o → read limits i ≡ Ok (x, o)

-- what is in the grammar within any limits is read, or refused for a limit
abbrev pub Blamed : {L A : Type 0} → (L → Parser A) → (L → Input → A → Input → Type 0) → Type 0
Blamed {L} {A} read Is = (limits wide : L) (i o : Input) (x : A) → Is wide i x o → (read limits i ≡ Ok (x, o)) ⊎ IsLimited (read limits i)
