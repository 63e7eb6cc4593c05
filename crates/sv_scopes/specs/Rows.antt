-- The names of a row of an each block (Svelte 4 docs, '{#each}').
use Rattle.std.specs.Prelude.{List, ◌∷◌, Option, map}
use Rattle.std.specs.Option.{option_to_list}
use Rattle.sv_ast.specs.declared.names.Named.{Named}
use Rattle.sv_ast.specs.declared.names.Ref.{Ref}
use Rattle.sv_names.specs.Uses.{named}

abbrev pub row_names : Named → Option Named → List Ref
row_names item index = named item ∷ map named (option_to_list index)
