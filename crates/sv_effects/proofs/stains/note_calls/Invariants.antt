use Rattle.std.proofs.Common.{◌≡◌, length, take}
use Rattle.std.specs.List.{filter_map}
use Rattle.sv_effects.specs.Stains.{called}
use Rattle.sv_graph.specs.Links.{AddsLinks}
use Rattle.sv_effects.proofs.stains.note_calls.Given as goal

abbrev pub invariant-loop-sign : goal.invariant-loop-sign
invariant-loop-sign l = record {
  size : length l.callers.items ≡ length l.fn.callers.items;
  adds : AddsLinks l.fn.callers.items (filter_map (called l.known) (take l.sign-index l.signs)) l.point l.callers.items;
}
