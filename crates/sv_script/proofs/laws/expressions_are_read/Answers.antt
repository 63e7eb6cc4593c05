use Rattle.sv_script.proofs.Agree.{expression_sound, expression_complete, expression_blamed}
use Rattle.sv_script.proofs.laws.expressions_are_read.Goals as goal

pub returns : goal.returns
returns c = record { sound = expression_sound; complete = expression_complete; cause = expression_blamed }
