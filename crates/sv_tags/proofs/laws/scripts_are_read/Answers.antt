use Rattle.sv_tags.proofs.Agree.{script_tag_sound, script_tag_complete, script_tag_blamed}
use Rattle.sv_tags.proofs.laws.scripts_are_read.Goals as goal

pub returns : goal.returns
returns c = record { sound = script_tag_sound; complete = script_tag_complete; cause = script_tag_blamed }
