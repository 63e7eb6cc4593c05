use Rattle.sv_page.proofs.Turning.{first_current}
use Rattle.sv_page.proofs.turns.first_turn.Goals as goal

pub returns : goal.returns
returns c = record { turn = c.mount_and_flush.ensures; current = first_current _ _ _ _ c.mount_and_flush.ensures }
