use Rattle.sv_watch.proofs.Turning.{turned-right}
use Rattle.sv_watch.proofs.page.turn_right.Goals as goal

pub returns-clause-turned : goal.returns-clause-turned
returns-clause-turned c = λ front own back is here size.
    turned-right c.args.pieces.now front own back c.rotate_right.new.self c.args.at c.args.count is here size c.rotate_right.ensures.after
