use Rattle.sv_source.proofs.Programs.{calls_same}
use Rattle.sv_source.proofs.laws.calls_mean_the_same.Goals as goal

pub returns : goal.returns
returns c = record { same = calls_same }
