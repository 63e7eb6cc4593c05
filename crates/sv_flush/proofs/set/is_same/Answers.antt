use Rattle.sv_flush.proofs.Same.{same-is}
use Rattle.sv_flush.proofs.set.is_same.Goals as goal

pub returns : goal.returns
returns c = same-is _ _ _ c.same.ensures
