use Rattle.sv_states.proofs.board.Board.+go.Given as goal

abbrev pub decreases-go : goal.decreases-go
decreases-go l = l.room
