use Rattle.std.proofs.Common.{length, ◌+◌, ◌*◌}
use Rattle.std.specs.Prelude.{not, count_by}
use Rattle.sv_graph.specs.Links.{links_of}
use Rattle.sv_graph.specs.Reached.{IsReaching}
use Rattle.sv_graph.proofs.reach.reached.Given as goal

abbrev pub invariant-loop-point : goal.invariant-loop-point
invariant-loop-point l = IsReaching (links_of l.links) l.starts (length l.links) l.met.items l.stack.items

abbrev pub decreases-loop-point : goal.decreases-loop-point
decreases-loop-point l = 2 * count_by not l.met.items + length l.stack.items
