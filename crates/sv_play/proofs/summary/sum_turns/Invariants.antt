use Rattle.std.proofs.Common.{◌≡◌}
use Rattle.sv_play.proofs.Summing.{Summed}
use Rattle.sv_play.proofs.summary.sum_turns.Given as goal
use Rattle.sv_session.specs.Plays.{IsShown, program_of}
use Rattle.sv_session.specs.Ready.{IsReady}

abbrev pub invariant-loop-event : goal.invariant-loop-event
invariant-loop-event l = record {
  program : program_of l.session ≡ program_of l.fn.session;
  shown : IsShown l.session;
  ready : IsReady l.session;
  so_far : Summed (program_of l.fn.session) l.events l.event-index l.evaluations l.session;
}
