use Rattle.sv_script.proofs.Agree.{closed}
use Rattle.sv_script.proofs.laws.arrow_blocks_are_closed.Goals as goal

pub returns : goal.returns
returns c = closed
