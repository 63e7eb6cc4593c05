use Rattle.sv_source.proofs.Programs.{tree_same}
use Rattle.sv_source.proofs.laws.expressions_mean_the_same.Goals as goal

pub returns : goal.returns
returns c = record { same = tree_same }
