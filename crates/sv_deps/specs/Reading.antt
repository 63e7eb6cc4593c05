-- What some names look at, where a component has some cells, and rows and slot props round the place declare some locals: a local hides a
-- cell of its name, a name that nothing declares counts as a local, and what is neither never changes.
use Rattle.std.specs.Prelude.{ℕ, suc, Bool, not, ◌||◌, is_some, List, [], ◌∷◌, ◌++◌, filter, map, if◌then◌else◌}
use Rattle.sv_ast.specs.declared.names.Ref.{Ref}
use Rattle.sv_code.specs.declared.parts.Reading.{Reading}
use Rattle.sv_lower.specs.Tops.{Tops, known_in}
use Rattle.sv_names.specs.Distinct.{has}
use Rattle.sv_names.specs.Locals.{name_of}

-- a number, if it is wanted
abbrev pub number_if : Bool → ℕ → List ℕ
number_if is_wanted n = if is_wanted then n ∷ [] else []

-- the numbers of the cells that are among some names, where the first cell has a number
abbrev pub numbers_from : ℕ → List Ref → List Ref → List ℕ
numbers_from n [] names = []
numbers_from n (cell ∷ cells) names = number_if (has cell names) n ++ numbers_from (suc n) cells names

-- the numbers of the cells that are among some names, ascending
abbrev pub numbers : List Ref → List Ref → List ℕ
numbers cells names = numbers_from 0 cells names

-- whether a name stands for a local: one of some, or one of which the top of the file says nothing
abbrev pub counts_as_local : Tops → List Ref → Ref → Bool
counts_as_local tops locals name = has name locals || not (is_some (known_in tops.known name))

-- what some names look at
abbrev pub reading : Tops → List Ref → List Ref → List Ref → Reading
reading tops cells locals names =
    record { cells = numbers cells (filter (λ name. not (has name locals)) names); locals = map name_of (filter (counts_as_local tops locals) names) }
