use Rattle.sv_right.proofs.Levels.{patches, going_on}
use Rattle.sv_right.proofs.laws.patches_stay_right.Goals as goal

pub returns : goal.returns
returns c = record { right = patches; later = going_on }
