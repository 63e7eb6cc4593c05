-- What files hold, and how an import names one (ECMA-262, 16.2.2). Files are named beside one another.
use Rattle.std.specs.Prelude.{ℕ, Bool, true, false, List, drop, Option, Some, None, codes, nat_eq, if◌then◌else◌}
use Rattle.std.specs.List.{starts_with}
use Rattle.sv_ast.specs.declared.files.FileTree.{FileTree}
use Rattle.sv_ast.specs.declared.files.FileTree.TheVariants as tree
use Rattle.sv_ast.specs.declared.script_tree.Stmt.{Stmt}

-- the statements at the top of a file
abbrev pub statements_of : FileTree → List Stmt
statements_of (tree.Component c) = c.script.stmts
statements_of (tree.Module m) = m.script.stmts

abbrev pub is_module : FileTree → Bool
is_module (tree.Component c) = false
is_module (tree.Module m) = true

-- the name of the file that an import names: what stands behind `./`. What the language gives is no file
abbrev pub name_in : List ℕ → Option (List ℕ)
name_in from = if starts_with nat_eq from (codes "./") then Some (drop 2 from) else None
