use Rattle.std.proofs.Common.{length, ◌+◌, ◌*◌, [], ℕ}
use Rattle.std.specs.Prelude.{count_by}
use Rattle.sv_graph.specs.Groups.{IsFlooding, is_free}
use Rattle.sv_graph.proofs.groups.flood.Given as goal

abbrev pub invariant-loop-point : goal.invariant-loop-point
invariant-loop-point l = (last : ℕ) × IsFlooding l.links l.groups.items l.stack.items l.group last []

abbrev pub decreases-loop-point : goal.decreases-loop-point
decreases-loop-point l = 2 * count_by is_free l.groups.items + length l.stack.items
