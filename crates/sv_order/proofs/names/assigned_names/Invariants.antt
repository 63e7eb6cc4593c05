use Rattle.std.proofs.Common.{take}
use Rattle.sv_order.specs.Points.{KnowsAll}
use Rattle.sv_order.proofs.names.assigned_names.Given as goal

abbrev pub invariant-loop-statement : goal.invariant-loop-statement
invariant-loop-statement l = KnowsAll (take l.statement-index l.list) l.names.keys
