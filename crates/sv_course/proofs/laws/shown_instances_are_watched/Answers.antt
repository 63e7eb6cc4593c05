use Rattle.sv_course.proofs.WatchingPages.{are_watched, watched_mount}
use Rattle.sv_course.proofs.laws.shown_instances_are_watched.Goals as goal

pub returns : goal.returns
returns c = record { mounting = λ p m is. are_watched p m.world.modules m.showing.shown m.world.modules m.world.states (watched_mount p m is) }
