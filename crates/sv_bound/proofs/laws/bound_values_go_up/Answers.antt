use Rattle.sv_bound.proofs.Up.{assigned-has, bound-same, handed-has}
use Rattle.sv_bound.proofs.laws.bound_values_go_up.Goals as goal

pub returns : goal.returns
returns c = record { assigned = assigned-has; bound = bound-same; handed = handed-has }
