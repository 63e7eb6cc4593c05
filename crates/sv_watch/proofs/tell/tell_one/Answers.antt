use Rattle.sv_watch.proofs.Telling.{answers}
use Rattle.sv_watch.proofs.tell.tell_one.Goals as goal
use Rattle.sv_watch.specs.Ear.{ear_of}

pub returns : goal.returns
returns g c =
    answers c.args.change.now c.tell.result (ear_of g.W.Watcher c.args.watcher.now) (ear_of g.W.Watcher c.tell.new.self) c.tell.ensures.heard c.tell.ensures.kept c.tell.ensures.later c.tell.ensures.failed
    c.tell.ensures.wants c.tell.ensures.same
