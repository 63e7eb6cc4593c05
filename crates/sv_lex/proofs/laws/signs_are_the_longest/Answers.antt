use Rattle.sv_lex.proofs.Longest.{longest_sign}
use Rattle.sv_lex.proofs.laws.signs_are_the_longest.Goals as goal

pub returns : goal.returns
returns c = longest_sign
