use Rattle.std.proofs.Common.{◌≡◌, take, length}
use Rattle.sv_graph.specs.Links.{AddsLinks}
use Rattle.sv_graph.proofs.turn.add_links.Given as goal

abbrev pub invariant-loop-point : goal.invariant-loop-point
invariant-loop-point l = record {
  size : length l.links.items ≡ length l.fn.links.items;
  adds : AddsLinks l.fn.links.items (take l.point-index l.from) l.to l.links.items;
}
