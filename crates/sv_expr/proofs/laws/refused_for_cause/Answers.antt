use Rattle.sv_expr.proofs.End.{blamed}
use Rattle.sv_expr.proofs.laws.refused_for_cause.Goals as goal

pub returns : goal.returns
returns c = blamed
