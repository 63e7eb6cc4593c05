use Rattle.std.proofs.Common.{reverse}
use Rattle.sv_graph.specs.Walk.{work_left}
use Rattle.sv_graph.proofs.Underway.{IsUnderway}
use Rattle.sv_graph.proofs.walk.walk_from.Given as goal

abbrev pub invariant-loop-frame : goal.invariant-loop-frame
invariant-loop-frame l = IsUnderway l.links l.fn.walk l.start l.walk (reverse l.stack.items)

abbrev pub decreases-loop-frame : goal.decreases-loop-frame
decreases-loop-frame l = work_left l.links l.walk (reverse l.stack.items)
