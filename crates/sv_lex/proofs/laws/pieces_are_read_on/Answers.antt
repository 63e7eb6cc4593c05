use Rattle.sv_lex.proofs.Longest.{reads_on}
use Rattle.sv_lex.proofs.laws.pieces_are_read_on.Goals as goal

pub returns : goal.returns
returns c = reads_on
