-- The expressions of markup.
use Rattle.std.specs.Prelude.{not, List, ◌++◌, Option, None, Some, filter, length}
use Rattle.sv_ast.specs.declared.names.Ref.{Ref}
use Rattle.sv_ast.specs.declared.script_tree.Expr.{Expr}
use Rattle.sv_code.specs.declared.parts.Part.{Part}
use Rattle.sv_lower.specs.Lower.{of_expr}
use Rattle.sv_names.specs.Distinct.{has, firsts}
use Rattle.sv_names.specs.Uses.{free_names}
use Rattle.sv_deps.specs.Reading.{reading}
use Rattle.sv_fragments.specs.Builds.{Builds, lowered}

-- an expression that looks at some names; the arrows that are written in it are the functions that it adds
unfoldable pub part_of : List Ref → Expr → Builds Part
part_of names e around locals before =
    let made = lowered (of_expr e) around locals before in (
      record {
        span = e.span;
        code = made.0;
        arrows = record { from = length before.functions; to = length made.1.functions };
        reads = reading around.tops around.cells locals names;
      },
      made.1,
    )

-- an expression, which looks at the names that stand free in it
abbrev pub part : Expr → Builds Part
part e = part_of (free_names e) e

-- the names of a list with a key: those free in the list, and those free in the key but for those of the row
abbrev pub list_names : List Ref → Expr → Option Expr → List Ref
list_names row list None = free_names list
list_names row list (Some key) = firsts (free_names list ++ filter (λ name. not (has name row)) (free_names key))
