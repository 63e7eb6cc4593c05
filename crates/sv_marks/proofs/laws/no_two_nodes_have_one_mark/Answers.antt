use Rattle.sv_marks.proofs.Runs.{marks_apart}
use Rattle.sv_marks.proofs.laws.no_two_nodes_have_one_mark.Goals as goal

pub returns : goal.returns
returns c = λ p m mark h some. marks_apart p m h mark some
