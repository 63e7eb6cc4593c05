use Rattle.std.proofs.Common.{length, ◌-◌}
use Rattle.sv_graph.proofs.Cycling.{NoneBelow}
use Rattle.sv_graph.proofs.cycle.first_cycle.Given as goal

abbrev pub invariant-loop-cycle : goal.invariant-loop-cycle
invariant-loop-cycle l = NoneBelow l.links l.start

abbrev pub decreases-loop-cycle : goal.decreases-loop-cycle
decreases-loop-cycle l = length l.links - l.start
