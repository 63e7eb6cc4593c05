-- The reactive statements of a script, as a program has them (Svelte 4 docs, '$: marks a statement as reactive').
use Rattle.std.specs.Prelude.{ℕ, ◌+◌, List, [], ◌∷◌, filter, option_map, slice_get}
use Rattle.std.specs.List.{flat_map}
use Rattle.std.specs.Option.{option_to_list}
use Rattle.sv_ast.specs.declared.names.Ref.{Ref}
use Rattle.sv_ast.specs.declared.script_tree.Stmt.{Stmt}
use Rattle.sv_code.specs.declared.program.Run.{Run}
use Rattle.sv_names.specs.Uses.{read_names, assigned_names}
use Rattle.sv_check.specs.Waiting.{is_reactive}
use Rattle.sv_deps.specs.Reading.{numbers}

-- statements with their places in a script, where the first has some place
abbrev pub placed : ℕ → List Stmt → List (ℕ × Stmt)
placed n [] = []
placed n (s ∷ stmts) = (n, s) ∷ placed (n + 1) stmts

-- the reactive statements among them, in the order of the text
abbrev pub reactives_from : ℕ → List Stmt → List (ℕ × Stmt)
reactives_from n stmts = filter (λ p. is_reactive p.1) (placed n stmts)

-- the reactive statements of a script
abbrev pub reactives : List Stmt → List (ℕ × Stmt)
reactives stmts = reactives_from 0 stmts

-- a reactive statement with its number among them, in a component of some cells
abbrev pub run : List Ref → ℕ → ℕ × Stmt → Run
run cells number p = record { number = number; span = p.1.span; stmt = p.0; reads = numbers cells (read_names p.1); sets = numbers cells (assigned_names p.1) }

-- the one with a number
abbrev pub run_at : List Ref → List (ℕ × Stmt) → ℕ → List Run
run_at cells all number = option_to_list (option_map (run cells number) (slice_get all number))

-- the reactive statements of a script in the order in which they run, by their numbers
abbrev pub runs : List Ref → List (ℕ × Stmt) → List ℕ → List Run
runs cells all order = flat_map (run_at cells all) order
