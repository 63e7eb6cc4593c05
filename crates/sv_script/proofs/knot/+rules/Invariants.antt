use Rattle.std.proofs.Common.{◌*◌, ◌+◌}
use Rattle.sv_script.proofs.knot.+rules.Given as goal

abbrev pub decreases-arrow_block : goal.decreases-arrow_block
decreases-arrow_block l = 2 * l.room + 1

abbrev pub decreases-block : goal.decreases-block
decreases-block l = 2 * l.room

abbrev pub decreases-body : goal.decreases-body
decreases-body l = 2 * l.room

abbrev pub decreases-inside : goal.decreases-inside
decreases-inside l = 2 * l.room
