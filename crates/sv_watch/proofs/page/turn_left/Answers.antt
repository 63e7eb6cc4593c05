use Rattle.sv_watch.proofs.Turning.{turned-left}
use Rattle.sv_watch.proofs.page.turn_left.Goals as goal

pub returns-clause-turned : goal.returns-clause-turned
returns-clause-turned c = λ front own back is here size.
    turned-left c.args.pieces.now front own back c.rotate_left.new.self c.args.at c.args.count is here size c.rotate_left.ensures.after
