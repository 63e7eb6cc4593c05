use Rattle.std.proofs.Common.{◌≡◌, take}
use Rattle.sv_shapes.proofs.keep.share_states.Given as goal

abbrev pub invariant-loop-state : goal.invariant-loop-state
invariant-loop-state l = l.same ≡ take l.state-index l.states
