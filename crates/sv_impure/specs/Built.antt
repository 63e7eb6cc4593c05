-- `String` and `Boolean` in a file that doesn't declare them anew.
use Rattle.std.specs.Prelude.{ℕ, List, [], ◌∷◌, ◌++◌, ◌==◌, length, if◌then◌else◌}
use Rattle.sv_ast.specs.declared.names.Ref.{Ref}
use Rattle.sv_ast.specs.declared.names.Ref.TheVariants.{Plain}
use Rattle.sv_base.specs.Names.{Table, number_of}
use Rattle.sv_base.specs.declared.built_in.TheConstants.{STRING, BOOLEAN}
use Rattle.sv_names.specs.Distinct.{has}

-- the name with a number
abbrev pub numbered : ℕ → Ref
numbered n = Plain (record { 0 = n })

-- a name, unless it is declared
abbrev pub unless_declared : List Ref → Ref → List Ref
unless_declared declared name = if has name declared then [] else name ∷ []

-- the name of a text, where the table has it and it isn't declared
abbrev pub undeclared : Table → List Ref → List ℕ → List Ref
undeclared table declared text = if number_of text table == length table then [] else unless_declared declared (numbered (number_of text table))

-- of `String` and `Boolean` those that a file doesn't declare
abbrev pub free_conversions : Table → List Ref → List Ref
free_conversions table declared = undeclared table declared STRING.now ++ undeclared table declared BOOLEAN.now
