-- What function values read.
use Rattle.std.specs.Prelude.{ℕ, Result, List}
use Rattle.std.specs.declared.alloc.Global.{Global}
use denote.Ref.{MutBor}
use Rattle.sv_ast.specs.declared.refusals.ParseError.{ParseError}
use Rattle.sv_ast.specs.declared.script_tree.Expr.{Expr}
use Rattle.sv_ast.specs.declared.script_tree.Stmt.{Stmt}
use Rattle.sv_lex.specs.Reader.{Input, Reads}
use Rattle.sv_expr.specs.declared.form.Form.{Form}
use Rattle.sv_expr.specs.Below.{Nests}
use Rattle.sv_script.specs.declared.place.Place.{Place}
use Rattle.sv_script.specs.Rules.{Bodies}

-- function values that read what stands in a construct, where there is so much room
pub record Holds (bodies : Bodies) (room : ℕ) (pre : Global → MutBor Input → ℕ → Form → Type 0)
    (post : Global → MutBor Input → ℕ → Form → Result Expr ParseError → MutBor Input → Type 0)
    (arrow_pre : Global → MutBor Input → ℕ → Type 0) (arrow_post : Global → MutBor Input → ℕ → Result (List Stmt) ParseError → MutBor Input → Type 0)
    (block_pre : Global → MutBor Input → ℕ → Place → Type 0)
    (block_post : Global → MutBor Input → ℕ → Place → Result (List Stmt) ParseError → MutBor Input → Type 0)
    (body_pre : Global → MutBor Input → ℕ → Place → Type 0)
    (body_post : Global → MutBor Input → ℕ → Place → Result Stmt ParseError → MutBor Input → Type 0) : Type 0 where
  pub exprs : Nests bodies.exprs room pre post arrow_pre arrow_post
  pub block_callable : (alloc : Global) (old : MutBor Input) (place : Place) → block_pre alloc old room place
  pub block_reads : (alloc : Global) (old new : MutBor Input) (place : Place) (r : Result (List Stmt) ParseError) → block_post alloc old room place r new
      → Reads (bodies.block place old.now) r new.now
  pub body_callable : (alloc : Global) (old : MutBor Input) (place : Place) → body_pre alloc old room place
  pub body_reads : (alloc : Global) (old new : MutBor Input) (place : Place) (r : Result Stmt ParseError) → body_post alloc old room place r new
      → Reads (bodies.body place old.now) r new.now
