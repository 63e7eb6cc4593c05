use Rattle.std.proofs.Common.{◌≡◌, take}
use Rattle.sv_fresh.specs.Sources.{row_items}
use Rattle.sv_fresh.proofs.source.row_items.Given as goal

abbrev pub invariant-loop-row : goal.invariant-loop-row
invariant-loop-row l = l.items ≡ row_items (take l.row-index l.rows)
