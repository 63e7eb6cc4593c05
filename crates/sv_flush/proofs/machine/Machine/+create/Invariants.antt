use Rattle.std.proofs.Common.{◌+◌, ◌*◌}
use Rattle.sv_flush.specs.Creation.{effects, effect_by, created_in}
use Rattle.sv_flush.proofs.Steps.{Left}
use Rattle.sv_flush.proofs.machine.Machine.+create.Given as goal

abbrev pub decreases-grow : goal.decreases-grow
decreases-grow l = 7 * l.room + 6

abbrev pub decreases-start : goal.decreases-start
decreases-start l = 7 * l.room + 5

abbrev pub decreases-show : goal.decreases-show
decreases-show l = 7 * l.room + 4

abbrev pub decreases-run_effects : goal.decreases-run_effects
decreases-run_effects l = 7 * l.room + 3

abbrev pub decreases-run_effect : goal.decreases-run_effect
decreases-run_effect l = 7 * l.room + 2

abbrev pub decreases-create_at : goal.decreases-create_at
decreases-create_at l = 7 * l.room + 1

abbrev pub decreases-create : goal.decreases-create
decreases-create l = 7 * l.room

abbrev pub invariant-run_effects-loop-effect : goal.invariant-run_effects-loop-effect
invariant-run_effects-loop-effect l =
    Left (effect_by l.self.program.now (created_in l.room l.self.program.now) l.parent.number) (effects l.room l.self.program.now l.parent.number l.effects l.fn.page) l.effects l.effect-index l.page
