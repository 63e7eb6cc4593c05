use Rattle.sv_script.proofs.Agree.{module_sound, module_complete, module_blamed}
use Rattle.sv_script.proofs.laws.modules_are_read.Goals as goal

pub returns : goal.returns
returns c = record { sound = module_sound; complete = module_complete; cause = module_blamed }
