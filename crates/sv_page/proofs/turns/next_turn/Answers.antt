use Rattle.sv_page.proofs.Turning.{next_current}
use Rattle.sv_page.proofs.turns.next_turn.Goals as goal

pub returns : goal.returns
returns c = record { turn = c.deliver_and_flush.ensures; current = next_current _ _ _ _ _ _ c.facts.ensures.sound c.deliver_and_flush.ensures }
