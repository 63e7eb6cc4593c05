use Rattle.std.proofs.Common.{length}
use Rattle.sv_wire.proofs.whole.+begins.Given as goal

abbrev pub decreases-begins : goal.decreases-begins
decreases-begins l = length l.start.now
