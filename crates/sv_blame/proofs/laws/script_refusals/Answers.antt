use Rattle.sv_blame.proofs.Refusals.{script_refusals}
use Rattle.sv_blame.proofs.laws.script_refusals.Goals as goal

pub returns : goal.returns
returns c = record { refused = script_refusals }
