use Rattle.sv_blame.proofs.Refusals.{expression_refusals}
use Rattle.sv_blame.proofs.laws.expression_refusals.Goals as goal

pub returns : goal.returns
returns c = record { refused = expression_refusals }
