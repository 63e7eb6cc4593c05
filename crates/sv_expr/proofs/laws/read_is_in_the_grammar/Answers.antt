use Rattle.sv_expr.proofs.Sound.{sound}
use Rattle.sv_expr.proofs.laws.read_is_in_the_grammar.Goals as goal

pub returns : goal.returns
returns c = sound
