use Rattle.sv_commit.proofs.Placing.{put-text}
use Rattle.sv_commit.proofs.Results.{on_ok}
use Rattle.sv_commit.proofs.Keeping.{places-Text}
use Rattle.sv_commit.proofs.arrange.place_text.Goals as goal

pub returns-clause-shown : goal.returns-clause-shown
returns-clause-shown c = on_ok c.put.result c.put.ensures.placed (λ e. put-text c.put.new.self.placed c.args.mark c.in_ok-named.named c.in_ok-text.text c.args.text.now _ c.args.walk.now.placed e c.in_ok-text.ensures c.in_ok-named.ensures.placed)

pub returns-clause-keeps : goal.returns-clause-keeps
returns-clause-keeps c = on_ok c.put.result c.put.ensures.placed (λ e.
    places-Text c.args.screen.now.page.next c.args.walk.now c.stand_text.new.walk c.put.new.self c.args.mark c.in_ok-named.named c.in_ok-text.text e c.put.ensures.rest c.in_ok-named.ensures.placed c.in_ok-named.ensures.others c.in_ok-named.ensures.named)
