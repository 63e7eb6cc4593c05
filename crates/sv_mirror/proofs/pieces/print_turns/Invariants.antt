use Rattle.std.proofs.Common.{◌≤◌, length}
use Rattle.sv_mirror.proofs.Course.{Read}
use Rattle.sv_mirror.proofs.pieces.print_turns.Given as goal

abbrev pub invariant-loop-rest : goal.invariant-loop-rest
invariant-loop-rest g l = record {
  read : Read l.bytes l.rest (g.K.Sink.written l.fn.out) (g.K.Sink.written l.out) l.reader l.screen;
  faults : g.K.Sink.faults l.fn.out ≤ g.K.Sink.faults l.out;
}

abbrev pub decreases-loop-rest : goal.decreases-loop-rest
decreases-loop-rest g l = length l.rest
