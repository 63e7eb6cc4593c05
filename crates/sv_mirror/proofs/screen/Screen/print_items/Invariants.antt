use Rattle.std.proofs.Common.{◌≤◌}
use Rattle.sv_mirror.proofs.Showing.{Shown}
use Rattle.sv_mirror.proofs.screen.Screen.print_items.Given as goal

abbrev pub invariant-loop-placed : goal.invariant-loop-placed
invariant-loop-placed g l = record {
  shown : Shown l.items l.placed-index (g.K.Sink.written l.fn.out) (g.K.Sink.written l.out) l.fn.self l.self;
  faults : g.K.Sink.faults l.fn.out ≤ g.K.Sink.faults l.out;
}
