use Rattle.sv_load.proofs.OneOutcome.{one_outcome}
use Rattle.sv_load.proofs.laws.one_outcome.Goals as goal

pub returns : goal.returns
returns c = one_outcome (record { modules = c.modules_are_read.ensures.complete; components = c.components_are_read.ensures.complete })
