use Rattle.sv_blame.proofs.Refusals.{source_refusals}
use Rattle.sv_blame.proofs.laws.source_refusals.Goals as goal

pub returns : goal.returns
returns c = record { refused = source_refusals }
