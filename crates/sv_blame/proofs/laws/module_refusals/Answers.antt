use Rattle.sv_blame.proofs.Refusals.{module_refusals}
use Rattle.sv_blame.proofs.laws.module_refusals.Goals as goal

pub returns : goal.returns
returns c = record { refused = module_refusals }
