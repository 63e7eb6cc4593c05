use Rattle.std.proofs.Common.{◌≡◌, drop}
use Rattle.sv_plan.specs.Lists.{gone_rows}
use Rattle.sv_parts.specs.State.{destroyed}
use Rattle.sv_plan.proofs.lists.destroy_rows.Given as goal

abbrev pub invariant-loop-index : goal.invariant-loop-index
invariant-loop-index l = destroyed (gone_rows l.keys l.rows) l.fn.state ≡ destroyed (gone_rows l.keys (drop l.index l.rows)) l.state
