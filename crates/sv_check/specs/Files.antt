-- What is asked of a file by itself: its scopes, and its cells and constants.
use Rattle.std.specs.Prelude.{List, []}
use Rattle.sv_ast.specs.declared.files.FileTree.{FileTree}
use Rattle.sv_ast.specs.declared.files.FileTree.TheVariants as tree
use Rattle.sv_ast.specs.declared.names.Ref.{Ref}
use Rattle.sv_resolve.specs.declared.cells.Scopes.{Scopes}
use Rattle.sv_resolve.specs.Cells.{scopes}
use Rattle.sv_scopes.specs.declared.scope.FileScopes.{FileScopes}
use Rattle.sv_scopes.specs.Files.{component_scopes, module_scopes}

-- the scopes of a file
abbrev pub scopes_of : FileTree → FileScopes
scopes_of (tree.Component c) = component_scopes c
scopes_of (tree.Module m) = module_scopes m.script

-- the cells and constants of a component; of a module none are told
abbrev pub told_scopes : FileTree → Scopes
told_scopes (tree.Component c) = scopes (component_scopes c).top
told_scopes (tree.Module m) = record { cells = []; constants = [] }

-- the cells of a component
abbrev pub cells_of : FileTree → List Ref
cells_of t = (told_scopes t).cells
