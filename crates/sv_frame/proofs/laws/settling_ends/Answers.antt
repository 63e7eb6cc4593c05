use Rattle.sv_frame.proofs.Settling.{settles, computes-all, rises}
use Rattle.sv_frame.proofs.laws.settling_ends.Goals as goal

pub returns : goal.returns
returns c = record { last = settles; all = computes-all; once = rises }
