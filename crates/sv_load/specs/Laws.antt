-- What holds of loading.
use Rattle.std.specs.Prelude.{◌≡◌, ℕ, List, Result}
use Rattle.sv_io.specs.Files.{Files}
use Rattle.sv_ast.specs.declared.files.Bundle.{Bundle}
use Rattle.sv_load.specs.Loads.{Reads, nothing}
use Rattle.sv_load.specs.declared.refusals.LoadError.{LoadError}

-- the same files and root come to one outcome
abbrev pub IsOneOutcome : Type 0
IsOneOutcome = (files : Files) (root : List ℕ) (a b : Result Bundle LoadError) → Reads files root nothing a → Reads files root nothing b → a ≡ b
