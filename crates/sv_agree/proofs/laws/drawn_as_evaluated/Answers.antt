use Rattle.sv_agree.proofs.Drawing.{drawing}
use Rattle.sv_agree.proofs.laws.drawn_as_evaluated.Goals as goal

pub returns : goal.returns
returns c = record { same = drawing }
