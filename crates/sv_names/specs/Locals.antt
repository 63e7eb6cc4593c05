-- The names that the scopes round a place declare.
use Rattle.std.specs.Prelude.{List, [], ◌++◌, map, filter}
use Rattle.sv_ast.specs.declared.names.Ref.{Ref}
use Rattle.sv_ast.specs.declared.names.Ref.TheVariants.{Plain, Store}
use Rattle.sv_base.specs.declared.names.Name.{Name}
use Rattle.sv_names.specs.Distinct.{has}
use Rattle.sv_names.specs.declared.locals.LocalScope.{LocalScope, Outside, Inside'}

-- those of the inner scope first
abbrev pub names_of : LocalScope → List Ref
names_of Outside = []
names_of (Inside' p outer names) = names.now ++ names_of outer

-- the name that is written, behind the `$` of a store name
abbrev pub name_of : Ref → Name
name_of (Plain name) = name
name_of (Store name) = name

-- the locals among some names
abbrev pub locals_among : List Ref → List Ref → List Name
locals_among locals names = map name_of (filter (λ name. has name locals) names)
