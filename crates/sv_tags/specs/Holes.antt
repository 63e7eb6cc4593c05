-- What stands in braces (Svelte 4, 'Text expressions').
use Rattle.std.specs.Prelude.{ℕ, ◌-◌, nat_le, Ok, if◌then◌else◌}
use Rattle.sv_ast.specs.declared.names.Ref.TheVariants.{Plain}
use Rattle.sv_ast.specs.declared.refusals.Kind.TheVariants.{TooDeep}
use Rattle.sv_ast.specs.declared.script_tree.Expr.{Expr}
use Rattle.sv_ast.specs.declared.script_tree.ExprKind.TheVariants as e
use Rattle.sv_lex.specs.declared.lexeme.Lexeme.TheVariants as k
use Rattle.sv_lex.specs.Bytes.{stop, place, pass}
use Rattle.sv_lex.specs.Reader.{Input, Parser, ◌>>=◌, ◌>>◌, pure, here, expect, span_from, name}
use Rattle.sv_expr.specs.Limits.{Limits}
use Rattle.sv_expr.specs.Nodes.{node}
use Rattle.sv_expr.specs.Rules.{target}
use Rattle.sv_script.specs.Script.{expression}
use Rattle.sv_tags.specs.declared.holes.Filling.{Filling}
use Rattle.sv_tags.specs.declared.holes.Filling.TheVariants.{Value, Target, Name}
use Rattle.sv_tags.specs.declared.holes.Hole.{Hole}

-- a name or a store name, which is read
unfoldable pub read_target : Parser Expr
read_target = do
  from ← here
  ref ← target
  λ i. Ok (node (span_from from i) (e.Read ref), i)

-- a name, which is read
unfoldable pub read_name : Parser Expr
read_name = do
  found ← name
  pure (node found.span (e.Read (Plain found.name)))

abbrev pub filled : Limits → Filling → ℕ → Parser Expr
filled limits Value room = expression limits room
filled limits Target room = read_target
filled limits Name room = read_name

-- an expression with the braces round it, from the first of them to where the text stands behind the other
abbrev pub hole : ℕ → Expr → Input → Hole
hole from x i = record { span = span_from from i; value = x }

-- one construct more may be opened
unfoldable pub opened : ℕ → Parser (Unit {0})
opened room = λ i. if nat_le 1 room then Ok (tt, i) else stop TooDeep i

-- braces, which are a construct, and what they hold
unfoldable pub braces : Limits → Filling → ℕ → Parser Hole
braces limits filling room = do
  from ← place
  opened room
  pass 1
  x ← filled limits filling (room - 1)
  expect k.RBrace
  λ i. Ok (hole from x i, i)
