use Rattle.sv_alike.proofs.Throughout.{instances_throughout, throughout}
use Rattle.sv_alike.proofs.laws.page_as_evaluated.Goals as goal

pub returns : goal.returns
returns c = record { instances = instances_throughout; page = throughout }
