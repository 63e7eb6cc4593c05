use Rattle.sv_graph.proofs.Underway.{IsWalked}
use Rattle.sv_graph.proofs.walk.walk_all.Given as goal

-- the walks from the points so far are done
abbrev pub invariant-loop-start : goal.invariant-loop-start
invariant-loop-start l = IsWalked l.links l.start l.walk
