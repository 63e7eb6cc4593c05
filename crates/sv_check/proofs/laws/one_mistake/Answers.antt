use Rattle.sv_check.proofs.OneMistake.{one_mistake}
use Rattle.sv_check.proofs.laws.one_mistake.Goals as goal

pub returns : goal.returns
returns c = one_mistake
