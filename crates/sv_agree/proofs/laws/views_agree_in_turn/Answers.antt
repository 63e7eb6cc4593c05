use Rattle.sv_agree.proofs.Onward.{in_turn}
use Rattle.sv_agree.proofs.laws.views_agree_in_turn.Goals as goal

pub returns : goal.returns
returns c = record { agree = in_turn }
