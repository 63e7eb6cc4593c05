use Rattle.std.proofs.Common.{◌≡◌, drop}
use Rattle.sv_meaning.specs.Runs.{cells_opened}
use Rattle.sv_scripts.proofs.components.open_cells.Given as goal

abbrev pub invariant-loop-cell : goal.invariant-loop-cell
invariant-loop-cell l = cells_opened l.inst.number l.cells l.fn.world ≡ cells_opened l.inst.number (drop l.cell-index l.cells) l.world
