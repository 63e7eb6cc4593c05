use Rattle.sv_right.proofs.Leaving.{leaving}
use Rattle.sv_right.proofs.laws.leaving_stays_right.Goals as goal

pub returns : goal.returns
returns c = record { right = leaving }
