-- What function values read.
use Rattle.std.specs.Prelude.{ℕ, Result, List}
use Rattle.std.specs.declared.alloc.Global.{Global}
use denote.Ref.{MutBor}
use Rattle.sv_ast.specs.declared.refusals.ParseError.{ParseError}
use Rattle.sv_ast.specs.declared.script_tree.Expr.{Expr}
use Rattle.sv_ast.specs.declared.script_tree.Stmt.{Stmt}
use Rattle.sv_lex.specs.Reader.{Input, Parser, Reads}
use Rattle.sv_expr.specs.declared.form.Form.{Form}
use Rattle.sv_expr.specs.Rules.{Readers}

-- a function value can be called at any place of a text
abbrev pub CanRead : (MutBor Input → Type 0) → Type 0
CanRead pre = (old : MutBor Input) → pre old

-- it reads what a parser says
abbrev pub ReadsAs : {A : Type 0} → Parser A → (MutBor Input → Result A ParseError → MutBor Input → Type 0) → Type 0
ReadsAs {A} reader post = (old new : MutBor Input) (r : Result A ParseError) → post old r new → Reads (reader old.now) r new.now

-- function values that read what stands in a construct, where there is so much room
pub record Nests (readers : Readers) (room : ℕ) (pre : Global → MutBor Input → ℕ → Form → Type 0)
    (post : Global → MutBor Input → ℕ → Form → Result Expr ParseError → MutBor Input → Type 0)
    (block_pre : Global → MutBor Input → ℕ → Type 0) (block_post : Global → MutBor Input → ℕ → Result (List Stmt) ParseError → MutBor Input → Type 0) : Type 0 where
  pub callable : (alloc : Global) (old : MutBor Input) (form : Form) → pre alloc old room form
  pub reads : (alloc : Global) (old new : MutBor Input) (form : Form) (r : Result Expr ParseError) → post alloc old room form r new
      → Reads (readers.inside form old.now) r new.now
  pub block_callable : (alloc : Global) (old : MutBor Input) → block_pre alloc old room
  pub block_reads : (alloc : Global) (old new : MutBor Input) (r : Result (List Stmt) ParseError) → block_post alloc old room r new
      → Reads (readers.block old.now) r new.now
