use Rattle.sv_marks.proofs.Runs.{runs_apart}
use Rattle.sv_marks.proofs.laws.marks_stand_apart_in_runs.Goals as goal

pub returns : goal.returns
returns c = λ p events compiled seen. runs_apart p compiled seen events
