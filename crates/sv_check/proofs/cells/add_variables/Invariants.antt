use Rattle.std.proofs.Common.{◌≡◌, ◌++◌, map, filter, drop}
use Rattle.sv_resolve.specs.Cells.{is_variable}
use Rattle.sv_resolve.specs.Places.{declaration_place}
use Rattle.sv_check.proofs.cells.add_variables.Given as goal

abbrev pub invariant-loop-declared : goal.invariant-loop-declared
invariant-loop-declared l = l.fn.cells ++ map (declaration_place l.names) (filter (λ d. is_variable d.by) l.declares) ≡ l.cells ++ map (declaration_place l.names) (filter (λ d. is_variable d.by) (drop l.declared-index l.declares))
