use Rattle.sv_within.proofs.Parts.{parts_made_within}
use Rattle.sv_within.proofs.laws.part_is_within.Goals as goal

pub returns : goal.returns
returns c = parts_made_within
