use Rattle.sv_tags.proofs.Agree.{opening_sound, opening_complete, opening_blamed}
use Rattle.sv_tags.proofs.laws.openings_are_read.Goals as goal

pub returns : goal.returns
returns c = record { sound = opening_sound; complete = opening_complete; cause = opening_blamed }
