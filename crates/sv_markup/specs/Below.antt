-- What function values read.
use Rattle.std.specs.Prelude.{ℕ, ◌≤◌, Bool, Result, List}
use Rattle.std.specs.declared.alloc.Global.{Global}
use denote.Ref.{MutBor}
use Rattle.sv_ast.specs.declared.markup_tree.Markup.{Markup}
use Rattle.sv_ast.specs.declared.refusals.ParseError.{ParseError}
use Rattle.sv_lex.specs.Reader.{Input, Reads}
use Rattle.sv_expr.specs.Limits.{real}
use Rattle.sv_markup.specs.Rules.{inside}

-- a function value that reads the nodes in a construct, where one may be opened
pub record Nests (room : ℕ) (pre : Global → MutBor Input → ℕ → Bool → Type 0)
    (post : Global → MutBor Input → ℕ → Bool → Result (List Markup) ParseError → MutBor Input → Type 0) : Type 0 where
  pub callable : 1 ≤ room → (alloc : Global) (old : MutBor Input) (owned : Bool) → pre alloc old room owned
  pub reads : (alloc : Global) (old new : MutBor Input) (owned : Bool) (r : Result (List Markup) ParseError) → post alloc old room owned r new
      → Reads (inside real room owned old.now) r new.now
