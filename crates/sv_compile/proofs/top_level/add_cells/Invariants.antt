use Rattle.std.proofs.Common.{◌≡◌, drop}
use Rattle.sv_compile.specs.TopLevel.{cells_from}
use Rattle.sv_lower.specs.Tops.{with_all}
use Rattle.sv_compile.proofs.top_level.add_cells.Given as goal

abbrev pub invariant-loop-n : goal.invariant-loop-n
invariant-loop-n l = record l.fn.tops { known = with_all l.fn.tops.known (cells_from 0 l.cells) } ≡ record l.tops { known = with_all l.tops.known (cells_from l.n (drop l.n l.cells)) }
