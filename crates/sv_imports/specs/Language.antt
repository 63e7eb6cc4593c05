-- What `svelte/store` gives (Svelte 4 docs, 'svelte/store').
use Rattle.std.specs.Prelude.{ℕ, Bool, ◌||◌, List, map}
use Rattle.sv_base.specs.BuiltIn.{store_functions}
use Rattle.sv_base.specs.Names.{Table, is_one_of}
use Rattle.sv_base.specs.declared.names.Name.{Name}
use Rattle.sv_imports.specs.declared.language.TheConstants.{DERIVED_FUNCTIONS}

-- `derived`
abbrev pub derived_functions : List (List ℕ)
derived_functions = map (λ word. word.now) DERIVED_FUNCTIONS

-- a name is that of a function that it gives
abbrev pub is_store_function : Table → Name → Bool
is_store_function table name = is_one_of table store_functions name || is_one_of table derived_functions name
