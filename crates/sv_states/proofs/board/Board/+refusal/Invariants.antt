use Rattle.sv_states.proofs.board.Board.+refusal.Given as goal

abbrev pub decreases-refusal : goal.decreases-refusal
decreases-refusal l = l.room
