use Rattle.std.proofs.Common.{◌≡◌, take}
use Rattle.sv_plan.specs.Lists.{row_keys}
use Rattle.sv_plan.proofs.lists.row_keys.Given as goal

abbrev pub invariant-loop-row : goal.invariant-loop-row
invariant-loop-row l = l.keys ≡ row_keys (take l.row-index l.rows)
