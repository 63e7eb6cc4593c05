use Rattle.std.proofs.Common.{◌≡◌, drop}
use Rattle.sv_check.specs.Cells.{first_view}
use Rattle.sv_check.proofs.cells.first_view.Given as goal

abbrev pub invariant-loop-found : goal.invariant-loop-found
invariant-loop-found l = first_view l.uses ≡ first_view (drop l.found-index l.uses)
