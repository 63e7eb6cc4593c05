-- The nodes of trees, and what heads hold.
use Rattle.std.specs.Prelude.{Option, None, Some, List, [], ◌∷◌, ◌++◌}
use Rattle.sv_ast.specs.declared.markup_tree.Branch.{Branch}
use Rattle.sv_ast.specs.declared.markup_tree.Markup.{Markup}
use Rattle.sv_ast.specs.declared.names.Named.{Named}
use Rattle.sv_ast.specs.declared.script_tree.Expr.{Expr}
use Rattle.sv_markup.specs.declared.heads.Head.{Head}
use Rattle.sv_markup.specs.declared.heads.Row.{Row}

abbrev pub branch : Expr → List Markup → Branch
branch test body = record { test = test; body = body }

abbrev pub row : Named → Option Named → Option Expr → Row
row item index key = record { item = item; index = index; key = key }

abbrev pub head : Expr → Row → Head
head list row = record { list = list; row = row }

-- nodes with one more, or none
abbrev pub with_node : Option Markup → List Markup → List Markup
with_node None found = found
with_node (Some x) found = found ++ x ∷ []
