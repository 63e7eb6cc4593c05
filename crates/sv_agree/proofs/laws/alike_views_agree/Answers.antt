use Rattle.sv_agree.proofs.Onward.{alike}
use Rattle.sv_agree.proofs.laws.alike_views_agree.Goals as goal

pub returns : goal.returns
returns c = record { agree = alike }
