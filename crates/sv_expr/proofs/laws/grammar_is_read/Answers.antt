use Rattle.sv_expr.proofs.End.{complete}
use Rattle.sv_expr.proofs.laws.grammar_is_read.Goals as goal

pub returns : goal.returns
returns c = complete
