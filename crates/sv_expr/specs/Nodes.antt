-- The nodes of trees.
use Rattle.std.specs.Prelude.{Bool, ◌==◌, List, [], ◌∷◌, ◌++◌, length, if◌then◌else◌}
use Rattle.sv_base.specs.declared.span.Span.{Span}
use Rattle.sv_ast.specs.declared.operators.Op.{Op}
use Rattle.sv_ast.specs.declared.script_tree.Expr.{Expr}
use Rattle.sv_ast.specs.declared.script_tree.ExprKind.{ExprKind}
use Rattle.sv_ast.specs.declared.script_tree.ExprKind.TheVariants as e
use Rattle.sv_ast.specs.declared.script_tree.Link.{Link}
use Rattle.sv_ast.specs.declared.script_tree.Entry.{Entry}
use Rattle.sv_ast.specs.declared.script_tree.Entry.TheVariants.{One, Spread}
use Rattle.sv_lex.specs.Reader.{Input, start, span_from}
use Rattle.sv_lex.specs.declared.cursor.Run.{Run}

abbrev pub node : Span → ExprKind → Expr
node span kind = record { span = span; kind = kind }

-- the node of the bytes from the token at `i` to `o`
abbrev pub form : Input → Input → ExprKind → Expr
form i o kind = node (span_from (start i) o) kind

abbrev pub link : Op → Expr → Link
link op right = record { op = op; right = right }

-- an operand and the operators of one level behind it; without any it is itself
unfoldable pub chain : Span → Expr → List Link → Expr
chain span first [] = first
chain span first (link ∷ links) = node span (e.Chain first (link ∷ links))

-- an item of a list, or the items of one
abbrev pub entry_of : Bool → Expr → Entry
entry_of is_spread value = if is_spread then Spread value else One value

-- the parts of a template with a literal run, which is one where it is not empty
abbrev pub with_run : Run → List Expr → List Expr
with_run run parts = if length run.text == 0 then parts else parts ++ node run.span (e.Text run.text) ∷ []
