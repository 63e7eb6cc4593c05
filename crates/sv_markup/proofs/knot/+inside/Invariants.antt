use Rattle.sv_markup.proofs.knot.+inside.Given as goal

abbrev pub decreases-inside : goal.decreases-inside
decreases-inside l = l.room
