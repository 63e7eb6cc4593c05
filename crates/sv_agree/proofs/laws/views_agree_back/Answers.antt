use Rattle.sv_agree.proofs.Onward.{back}
use Rattle.sv_agree.proofs.laws.views_agree_back.Goals as goal

pub returns : goal.returns
returns c = record { agree = back }
