use Rattle.sv_places.proofs.Patches.{patch-keeps}
use Rattle.sv_places.proofs.laws.patches_lose_no_child.Goals as goal

pub returns : goal.returns
returns c = record { patch = λ p tags n markup view page counters tally after fit e. patch-keeps p tags n markup view page counters tally after fit e }
