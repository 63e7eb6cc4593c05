use Rattle.sv_right.proofs.Holding.{holding}
use Rattle.sv_right.proofs.laws.holds_what_evaluates.Goals as goal

pub returns : goal.returns
returns c = record { same = holding }
