-- The grammar by itself: the blocks of arrows are those of the grammar too, so that no reader is spoken of.
use Rattle.std.specs.Prelude.{◌≡◌, ℕ, suc, List, Ok}
use Rattle.sv_ast.specs.declared.script_tree.Expr.{Expr}
use Rattle.sv_ast.specs.declared.script_tree.Stmt.{Stmt}
use Rattle.sv_lex.specs.Reader.{Input, Parser}
use Rattle.sv_expr.specs.declared.form.Form.TheVariants.{Whole}
use Rattle.sv_expr.specs.Grammar.{Inside}
use Rattle.sv_expr.specs.Limits.{Limits}
use Rattle.sv_script.specs.Grammar.{Block, Component, Module}
use Rattle.sv_script.specs.Places.{in_function}

-- what these take, where there is so much room, are blocks of functions, and they take each of those
pub record IsClosed (limits : Limits) (block : ℕ → Parser (List Stmt)) : Type 0 where
  pub only : (room : ℕ) (i o : Input) (found : List Stmt) → block room i ≡ Ok (found, o) → Block limits block room in_function i found o
  pub all : (room : ℕ) (i o : Input) (found : List Stmt) → Block limits block room in_function i found o → block room i ≡ Ok (found, o)

-- the text from `i` to `o` is `x` by a rule, with such blocks in arrows
pub record InGrammar {A : Type 0} (limits : Limits) (Rule : (ℕ → Parser (List Stmt)) → Input → A → Input → Type 0) (i : Input) (x : A) (o : Input) : Type 0 where
  pub block : ℕ → Parser (List Stmt)
  pub closed : IsClosed limits block
  pub is : Rule block i x o

-- the text from `i` to `o` is this script of a component
abbrev pub ScriptAt : Limits → Input → List Stmt → Input → Type 0
ScriptAt limits = InGrammar limits (λ block. Component limits block limits.nest)

-- this module
abbrev pub ModuleAt : Limits → Input → List Stmt → Input → Type 0
ModuleAt limits = InGrammar limits (λ block. Module limits block limits.nest)

-- this expression, where so many constructs may enclose one another
abbrev pub ExpressionAt : Limits → ℕ → Input → Expr → Input → Type 0
ExpressionAt limits room = InGrammar limits (λ block. Inside limits block (suc room) Whole)
