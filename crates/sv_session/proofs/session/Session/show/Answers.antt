use Rattle.std.proofs.Common.{refl}
use Rattle.sv_session.proofs.Going.{drawn_fresh}
use Rattle.sv_session.specs.Plays.{program_of}
use Rattle.sv_session.proofs.session.Session.show.Goals as goal

pub returns-clause-shown : goal.returns-clause-shown
returns-clause-shown c =
    record { shown = drawn_fresh (program_of c.args.self.now) c.args.self.now.page c.in_ok-self.field-0 c.requires.runnable c.requires.reached c.in_ok-self.ensures; running = refl }
