use Rattle.sv_script.proofs.Agree.{script_sound, script_complete, script_blamed}
use Rattle.sv_script.proofs.laws.scripts_are_read.Goals as goal

pub returns : goal.returns
returns c = record { sound = script_sound; complete = script_complete; cause = script_blamed }
