use Rattle.sv_states.proofs.board.Board.+context.Given as goal

abbrev pub decreases-context : goal.decreases-context
decreases-context l = l.room
