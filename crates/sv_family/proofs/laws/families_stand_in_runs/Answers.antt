use Rattle.sv_family.proofs.Pages.{runs_keep}
use Rattle.sv_family.proofs.laws.families_stand_in_runs.Goals as goal

pub returns : goal.returns
returns c = λ p events compiled seen. runs_keep p compiled seen events
