use Rattle.sv_tags.proofs.Agree.{braces_sound, braces_complete, braces_blamed}
use Rattle.sv_tags.proofs.laws.braces_are_read.Goals as goal

pub returns : goal.returns
returns c = record { sound = braces_sound; complete = braces_complete; cause = braces_blamed }
