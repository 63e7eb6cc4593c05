use Rattle.std.proofs.Common.{length}
use Rattle.sv_document.proofs.path.+at_places.Given as goal

abbrev pub decreases-at_places : goal.decreases-at_places
decreases-at_places l = length l.places.now
