use Rattle.sv_blame.proofs.Refusals.{component_refusals}
use Rattle.sv_blame.proofs.laws.component_refusals.Goals as goal

pub returns : goal.returns
returns c = record { refused = component_refusals }
