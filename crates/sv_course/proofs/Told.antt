-- What is watched of live instances tells on what view each is to be shown.
use Rattle.sv_code.specs.declared.program.Program.{Program}
use Rattle.sv_course.proofs.Telling.{Tells}
use Rattle.sv_course.proofs.WatchingPages.{now_of, idle_opened, busy_opened}
use Rattle.sv_course.proofs.WatchingPhases.{Watched, watched_last}
use Rattle.sv_frame.proofs.Outcomes.{Modules}

pub watched_tells : (p : Program) (ms : Modules) → Tells p ms (Watched p ms)
watched_tells p ms = record {
  lasts = watched_last p ms;
  now = now_of p ms;
  idle = λ n m h. idle_opened p ms n m.showing.shown m.world.modules m.world.states h;
  busy = λ n m h. busy_opened p ms n m.showing.shown m.world.modules m.world.states n h;
}
