use Rattle.sv_audience.proofs.Onward.{listened-none, listened-more}
use Rattle.sv_audience.proofs.laws.pages_add_up.Goals as goal

pub returns : goal.returns
returns c = record { none = listened-none; more = λ pages nodes tree new was mid now was_gone mid_gone now_gone heard hears. listened-more heard hears }
