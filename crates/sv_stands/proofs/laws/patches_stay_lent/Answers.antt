use Rattle.sv_stands.proofs.Patches.{patch_lends, patch_makes}
use Rattle.sv_stands.proofs.laws.patches_stay_lent.Goals as goal

pub returns-clause-stay : goal.returns-clause-stay
returns-clause-stay c = λ p tags n markup view page counters tally after fit e. patch_lends p tags n markup view page counters tally after fit e

pub returns-clause-first : goal.returns-clause-first
returns-clause-first c = λ p tags n markup view page counters tally after none e. patch_makes p tags n markup view page counters tally after none e
