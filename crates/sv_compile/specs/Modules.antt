-- The order in which module files run.
use Rattle.std.specs.Prelude.{◌≡◌, ℕ, Bool, false, List, [], ◌∷◌, filter, slice_get}
use Rattle.std.specs.Option.{option_map_or}
use Rattle.sv_ast.specs.declared.files.SourceFile.{SourceFile}
use Rattle.sv_ast.specs.Files.{is_module}
use Rattle.sv_imports.specs.Imports.{imports}
use Rattle.sv_graph.specs.Visited.{IsVisited}
use Rattle.sv_graph.specs.declared.outcome.Visited.{Visited}
use Rattle.sv_graph.specs.declared.outcome.Visited.TheVariants as visited

abbrev pub is_module_at : List SourceFile → ℕ → Bool
is_module_at files n = option_map_or (λ source. is_module source.tree) (slice_get files n) false

-- the modules among the files that a visit of imports places; imports in a cycle have no order
abbrev pub modules_in : List SourceFile → Visited → List ℕ
modules_in files (visited.Order order) = filter (is_module_at files) order.items
modules_in files (visited.Cycle cycle) = []

-- the visit begins at the first file
abbrev pub starts : List SourceFile → ℕ
starts [] = 0
starts (source ∷ files) = 1

-- module files in the order in which a visit of the first file and its imports places them, each behind those that it imports
pub record AreModules (files : List SourceFile) (modules : List ℕ) : Type 0 where
  pub visited : Visited
  pub is_visited : IsVisited (imports files) (starts files) visited
  pub are : modules ≡ modules_in files visited
