use Rattle.std.proofs.Common.{◌+◌, ◌*◌}
use Rattle.sv_flush.specs.Destruction.{taken, destroyed, children_destroyed}
use Rattle.sv_flush.proofs.Steps.{Left}
use Rattle.sv_flush.proofs.machine.Machine.+destroy.Given as goal

abbrev pub decreases-destroy_at : goal.decreases-destroy_at
decreases-destroy_at l = 3 * l.room + 2

abbrev pub decreases-destroy : goal.decreases-destroy
decreases-destroy l = 3 * l.room + 1

abbrev pub decreases-destroy_children : goal.decreases-destroy_children
decreases-destroy_children l = 3 * l.room

abbrev pub invariant-destroy_children-loop-place : goal.invariant-destroy_children-loop-place
invariant-destroy_children-loop-place l =
    Left (taken (destroyed l.below l.self.program.now)) (children_destroyed l.room l.self.program.now l.fn.inst.number l.fn.page) l.place-items l.place-index l.page
