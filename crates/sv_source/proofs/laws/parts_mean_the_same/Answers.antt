use Rattle.sv_source.proofs.Meant.{parts_same}
use Rattle.sv_source.proofs.laws.parts_mean_the_same.Goals as goal

pub returns : goal.returns
returns c = record { same = parts_same }
