use Rattle.sv_graph.specs.Search.{IsSearch, search_left}
use Rattle.sv_graph.proofs.cycle.cycle_from.Given as goal

abbrev pub invariant-loop-frame : goal.invariant-loop-frame
invariant-loop-frame l = IsSearch l.links l.start l.met.items l.stack.items

abbrev pub decreases-loop-frame : goal.decreases-loop-frame
decreases-loop-frame l = search_left l.links l.met.items l.stack.items
