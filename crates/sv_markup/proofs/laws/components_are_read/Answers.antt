use Rattle.sv_markup.proofs.Agree.{sound, complete, blamed}
use Rattle.sv_markup.proofs.laws.components_are_read.Goals as goal

pub returns-clause-sound : goal.returns-clause-sound
returns-clause-sound c = sound

pub returns-clause-complete : goal.returns-clause-complete
returns-clause-complete c = complete

pub returns-clause-cause : goal.returns-clause-cause
returns-clause-cause c = blamed
