use Rattle.std.proofs.Common.{take}
use Rattle.sv_graph.specs.Reached.{Reaches}
use Rattle.sv_graph.proofs.reach.meet_all.Given as goal

abbrev pub invariant-loop-point : goal.invariant-loop-point
invariant-loop-point l = Reaches (take l.point-index l.points) l.fn.met.items l.fn.stack.items l.met.items l.stack.items
