use Rattle.sv_blame.proofs.Refusals.{module_script_refusals}
use Rattle.sv_blame.proofs.laws.module_script_refusals.Goals as goal

pub returns : goal.returns
returns c = record { refused = module_script_refusals }
