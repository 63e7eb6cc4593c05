-- The nodes of trees.
use Rattle.std.specs.Prelude.{Option}
use Rattle.sv_base.specs.declared.span.Span.{Span}
use Rattle.sv_ast.specs.declared.names.Named.{Named}
use Rattle.sv_ast.specs.declared.script_tree.Arm.{Arm}
use Rattle.sv_ast.specs.declared.script_tree.Decl.{Decl, roll-Decl}
use Rattle.sv_ast.specs.declared.script_tree.Expr.{Expr}
use Rattle.sv_ast.specs.declared.script_tree.ImportName.{ImportName}
use Rattle.sv_ast.specs.declared.script_tree.Stmt.{Stmt}
use Rattle.sv_ast.specs.declared.script_tree.StmtKind.{StmtKind}
use Rattle.sv_lex.specs.Reader.{Input, start, span_from}

abbrev pub stmt : Span → StmtKind → Stmt
stmt span kind = record { span = span; kind = kind }

-- the node of the bytes from the token at `i` to `o`
abbrev pub form : Input → Input → StmtKind → Stmt
form i o kind = stmt (span_from (start i) o) kind

abbrev pub decl : Named → Option Expr → Decl
decl name first = roll-Decl (record { name = name; first = first })

abbrev pub arm : Expr → Stmt → Arm
arm test body = record { test = test; body = body }

abbrev pub known_by : Named → Named → ImportName
known_by given local = record { given = given; local = local }
