use Rattle.sv_instance.specs.Place.{inst_number}
use Rattle.sv_states.proofs.Leaving.{Passed}
use Rattle.sv_states.proofs.queue.place_of.Given as goal

abbrev pub invariant-loop-place : goal.invariant-loop-place
invariant-loop-place l = Passed inst_number l.entries.items l.number l.place
