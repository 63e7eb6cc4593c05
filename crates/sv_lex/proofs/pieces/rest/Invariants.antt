use Rattle.std.proofs.Common.{◌≡◌, ◌≤◌, length}
use Rattle.sv_lex.specs.Pieces.{rest}
use Rattle.sv_lex.proofs.pieces.rest.Given as goal

abbrev pub invariant-loop-piece : goal.invariant-loop-piece
invariant-loop-piece l = (rest l.piece l.z ≡ rest l.piece l.initial.z) × (length l.z ≤ length l.initial.z)

abbrev pub decreases-loop-piece : goal.decreases-loop-piece
decreases-loop-piece l = length l.z
