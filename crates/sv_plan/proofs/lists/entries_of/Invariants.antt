use Rattle.std.proofs.Common.{◌≡◌, map, take}
use Rattle.sv_plan.specs.Lists.{entry_of}
use Rattle.sv_plan.proofs.lists.entries_of.Given as goal

abbrev pub invariant-loop-row : goal.invariant-loop-row
invariant-loop-row l = l.entries ≡ map entry_of (take l.row-index l.rows)
