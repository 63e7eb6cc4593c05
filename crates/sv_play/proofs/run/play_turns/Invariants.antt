use Rattle.std.proofs.Common.{◌≡◌, ◌≤◌}
use Rattle.sv_play.proofs.Playing.{Played}
use Rattle.sv_play.proofs.run.play_turns.Given as goal
use Rattle.sv_session.specs.Plays.{IsShown, program_of}
use Rattle.sv_session.specs.Ready.{IsReady}

abbrev pub invariant-loop-event : goal.invariant-loop-event
invariant-loop-event g l = record {
  number : l.number ≡ l.event-index;
  program : program_of l.session ≡ program_of l.fn.session;
  shown : IsShown l.session;
  ready : IsReady l.session;
  played : Played (program_of l.fn.session) l.printer.flags l.events (g.K.Sink.written l.fn.out) (g.K.Sink.written l.out) l.event-index l.session;
  faults : g.K.Sink.faults l.fn.out ≤ g.K.Sink.faults l.out;
}
