use Rattle.std.proofs.Common.{◌≡◌}
use Rattle.sv_session.specs.Plays.{IsShown, program_of}
use Rattle.sv_session.specs.Ready.{IsReady}
use Rattle.sv_test.proofs.Playing.{Left}
use Rattle.sv_test.proofs.play.play_on.Given as goal

abbrev pub invariant-loop-at : goal.invariant-loop-at
invariant-loop-at l = record {
  program : program_of l.session ≡ program_of l.fn.session;
  shown : IsShown l.session;
  ready : IsReady l.session;
  left : Left (program_of l.fn.session) l.deeds l.fn.report l.at l.report l.session;
}
