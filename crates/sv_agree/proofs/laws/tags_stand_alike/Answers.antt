use Rattle.sv_agree.proofs.Standing.{standing}
use Rattle.sv_agree.proofs.laws.tags_stand_alike.Goals as goal

pub returns : goal.returns
returns c = record { same = standing }
