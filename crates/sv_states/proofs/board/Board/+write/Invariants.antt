use Rattle.std.proofs.Common.{length}
use Rattle.sv_states.proofs.board.Board.+write.Given as goal

abbrev pub decreases-write : goal.decreases-write
decreases-write l = length l.cells.now
