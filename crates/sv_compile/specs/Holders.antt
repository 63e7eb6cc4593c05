-- What may hold the stores of a component: its constants, what it imports between braces, and its variables.
use Rattle.std.specs.Prelude.{List, ◌++◌, Option, option_map, filter}
use Rattle.std.specs.List.{filter_map}
use Rattle.sv_ast.specs.declared.files.Component.{Component}
use Rattle.sv_ast.specs.declared.names.Named.{Named}
use Rattle.sv_ast.specs.declared.names.Ref.TheVariants.{Plain}
use Rattle.sv_base.specs.Names.{Table}
use Rattle.sv_compile.specs.declared.constants.Given.{Given}
use Rattle.sv_lower.specs.Tops.{Tops, known_in}
use Rattle.sv_resolve.specs.Cells.{is_variable}
use Rattle.sv_resolve.specs.Places.{declaration_place}
use Rattle.sv_scopes.specs.declared.scope.Declared.{Declared}
use Rattle.sv_scopes.specs.Files.{component_scopes}

-- a name with the place where it is declared
abbrev pub placed_name : Table → Declared → Named
placed_name table d = record { name = d.name; span = declaration_place table d }

-- a variable, and what its name stands for
abbrev pub variable : Table → Tops → Declared → Option Given
variable table top d = option_map (λ k. record { named = placed_name table d; known = k }) (known_in top.known (Plain d.name))

-- the variables among what is declared
abbrev pub variables : Table → Tops → List Declared → List Given
variables table top ds = filter_map (variable table top) (filter (λ d. is_variable d.by) ds)

-- all that may hold a store: some constants and imports, and the variables of a component
abbrev pub holders : Table → Tops → List Given → Component → List Given
holders table top given c = given ++ variables table top (component_scopes c).top.declares
