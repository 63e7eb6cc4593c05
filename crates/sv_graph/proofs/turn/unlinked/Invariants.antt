use Rattle.std.proofs.Common.{◌≡◌, [], replicate}
use Rattle.sv_graph.proofs.turn.unlinked.Given as goal

abbrev pub invariant-loop : goal.invariant-loop
invariant-loop l = l.links.items ≡ replicate l.counter []
