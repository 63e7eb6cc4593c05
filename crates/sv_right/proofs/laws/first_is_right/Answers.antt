use Rattle.sv_right.proofs.Levels.{first}
use Rattle.sv_right.proofs.laws.first_is_right.Goals as goal

pub returns : goal.returns
returns c = record { right = first }
