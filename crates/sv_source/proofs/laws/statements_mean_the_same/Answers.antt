use Rattle.sv_source.proofs.Programs.{stmts_same}
use Rattle.sv_source.proofs.laws.statements_mean_the_same.Goals as goal

pub returns : goal.returns
returns c = record { same = stmts_same }
