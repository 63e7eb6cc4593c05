-- The lines of programs that run.
use Rattle.sv_code.proofs.Compiled.{lines_ascend}
use Rattle.sv_code.specs.declared.program.Program.{Program}
use Rattle.sv_play.specs.Refused.{LinesAscend}
use Rattle.sv_session.specs.Plays.{program_of}
use Rattle.sv_session.specs.Ready.{IsReady}
use Rattle.sv_session.specs.declared.session.Session.{Session}
use Rattle.sv_within.specs.Runnable.{IsRunnable}

pub runnable_lines : (p : Program) → IsRunnable p → LinesAscend p
runnable_lines p h = lines_ascend p h.compiled

pub ready_lines : (s : Session) → IsReady s → LinesAscend (program_of s)
ready_lines s h = runnable_lines (program_of s) h.runnable
