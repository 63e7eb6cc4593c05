use Rattle.sv_agree.proofs.Holding.{holding}
use Rattle.sv_agree.proofs.laws.holds_are_claimed.Goals as goal

pub returns : goal.returns
returns c = record { same = holding }
