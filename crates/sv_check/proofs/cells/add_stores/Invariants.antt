use Rattle.std.proofs.Common.{◌≡◌, [], ◌++◌, drop}
use Rattle.sv_check.specs.Cells.{store_places}
use Rattle.sv_check.proofs.cells.add_stores.Given as goal

abbrev pub invariant-loop-found : goal.invariant-loop-found
invariant-loop-found l = l.fn.cells ++ store_places l.names [] l.uses ≡ l.cells ++ store_places l.names l.known (drop l.found-index l.uses)
