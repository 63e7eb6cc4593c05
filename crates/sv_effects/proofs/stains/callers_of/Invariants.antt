use Rattle.std.proofs.Common.{◌≡◌, length, map, take}
use Rattle.sv_effects.specs.Calls.{calls_in}
use Rattle.sv_graph.specs.Links.{IsTurned}
use Rattle.sv_effects.proofs.stains.callers_of.Given as goal

abbrev pub invariant-loop-point : goal.invariant-loop-point
invariant-loop-point l = record {
  size : length l.callers.items ≡ length l.functions;
  turned : IsTurned (take l.point (map (calls_in l.known) l.functions)) l.callers.items;
}
