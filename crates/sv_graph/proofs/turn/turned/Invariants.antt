use Rattle.std.proofs.Common.{◌≡◌, take, length}
use Rattle.sv_graph.specs.Links.{IsTurned}
use Rattle.sv_graph.proofs.turn.turned.Given as goal

abbrev pub invariant-loop-point : goal.invariant-loop-point
invariant-loop-point l = record {
  size : length l.turned.items ≡ length l.links;
  turned : IsTurned (take l.point l.links) l.turned.items;
}
