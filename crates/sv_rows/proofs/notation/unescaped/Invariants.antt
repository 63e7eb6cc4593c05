use Rattle.std.proofs.Common.{length}
use Rattle.sv_rows.proofs.notation.unescaped.Given as goal

abbrev pub decreases-loop-at : goal.decreases-loop-at
decreases-loop-at l = length l.rest
