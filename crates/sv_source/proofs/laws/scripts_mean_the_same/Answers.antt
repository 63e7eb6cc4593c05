use Rattle.sv_source.proofs.Meant.{scripts_same}
use Rattle.sv_source.proofs.laws.scripts_mean_the_same.Goals as goal

pub returns : goal.returns
returns c = record { same = scripts_same }
