use Rattle.std.proofs.Common.{take}
use Rattle.sv_order.specs.Points.{Keeps}
use Rattle.sv_order.proofs.names.add_names.Given as goal

abbrev pub invariant-loop-name : goal.invariant-loop-name
invariant-loop-name l = Keeps l.fn.names.keys (take l.name-index l.more) l.names.keys
