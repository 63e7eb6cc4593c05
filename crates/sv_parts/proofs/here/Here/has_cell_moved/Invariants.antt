use Rattle.std.proofs.Common.{◌≡◌, drop}
use Rattle.std.specs.List.{list_any}
use Rattle.sv_parts.specs.Sides.{sides, cell_moved}
use Rattle.sv_parts.proofs.here.Here.has_cell_moved.Given as goal

abbrev pub invariant-loop-cell : goal.invariant-loop-cell
invariant-loop-cell l = list_any (cell_moved (sides l.self)) l.cells ≡ list_any (cell_moved (sides l.self)) (drop l.cell-index l.cells)
