use Rattle.sv_graph.proofs.Cycling.{first-found}
use Rattle.sv_graph.proofs.cycle.first_cycle.Goals as goal

pub returns-in-Some : goal.returns-in-Some
returns-in-Some c = first-found c.args.links.now c.loop-cycle.start c.in-Some.cycle.items c.loop-cycle.invariant (rw c.in-Some.is at c.in_ok-cycle.ensures)
