use Rattle.std.proofs.Common.{◌≡◌, map, take}
use Rattle.sv_flush.specs.Showing.{own_tag}
use Rattle.sv_states.specs.States.{live}
use Rattle.sv_flush.proofs.machine.Machine.tags_of.Given as goal

abbrev pub invariant-loop-inst : goal.invariant-loop-inst
invariant-loop-inst l = l.tags.items ≡ map (λ i. own_tag (live l.world.states i.number)) (take l.inst-index l.inst-items)
