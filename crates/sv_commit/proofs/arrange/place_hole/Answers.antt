use Rattle.sv_commit.proofs.Placing.{put-hole}
use Rattle.sv_commit.proofs.Results.{on_ok}
use Rattle.sv_commit.proofs.Keeping.{places-Hole}
use Rattle.sv_commit.proofs.arrange.place_hole.Goals as goal

pub returns-clause-shown : goal.returns-clause-shown
returns-clause-shown c = on_ok c.put.result c.put.ensures.placed (λ e. put-hole c.put.new.self.placed c.args.place c.in_ok-standing.standing.anchor c.in_ok-standing.standing.parts _ c.args.walk.now.placed e c.in_ok-standing.ensures.placed)

pub returns-clause-keeps : goal.returns-clause-keeps
returns-clause-keeps c = on_ok c.put.result c.put.ensures.placed (λ e.
    places-Hole c.args.screen.now.page.next c.args.walk.now c.stand_hole.new.walk c.put.new.self c.args.place c.in_ok-standing.standing.anchor c.in_ok-standing.standing.parts e c.put.ensures.rest c.in_ok-standing.ensures.placed
    c.in_ok-standing.ensures.others c.in_ok-standing.ensures.seated)
