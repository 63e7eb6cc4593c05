use Rattle.sv_check.proofs.OneMistake.{mistake_or_clean}
use Rattle.sv_check.proofs.laws.mistake_or_clean.Goals as goal

pub returns : goal.returns
returns c = mistake_or_clean
