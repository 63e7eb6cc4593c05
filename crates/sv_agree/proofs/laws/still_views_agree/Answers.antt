use Rattle.sv_agree.proofs.Onward.{still}
use Rattle.sv_agree.proofs.laws.still_views_agree.Goals as goal

pub returns : goal.returns
returns c = record { agree = still }
