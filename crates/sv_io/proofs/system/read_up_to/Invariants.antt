use Rattle.std.proofs.Common.{◌≤◌, ◌-◌, length}
use Rattle.sv_io.proofs.system.read_up_to.Given as goal

abbrev pub invariant-loop-bytes : goal.invariant-loop-bytes
invariant-loop-bytes g l = length l.bytes.items ≤ l.limit

abbrev pub decreases-loop-bytes : goal.decreases-loop-bytes
decreases-loop-bytes g l = l.limit - length l.bytes.items
