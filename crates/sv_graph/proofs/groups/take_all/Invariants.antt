use Rattle.std.proofs.Common.{length, ◌+◌, ◌*◌, ◌≡◌, ◌≤◌, drop}
use Rattle.std.specs.Prelude.{count_by}
use Rattle.sv_graph.specs.Groups.{group_at, IsFlooding, is_free}
use Rattle.sv_graph.proofs.groups.take_all.Given as goal

abbrev pub invariant-loop-other : goal.invariant-loop-other
invariant-loop-other l = record {
  flooding : IsFlooding l.links l.groups.items l.stack.items l.group l.point (drop l.other-index l.other-items);
  own : group_at l.groups.items l.point ≡ l.group;
  less : 2 * count_by is_free l.groups.items + length l.stack.items ≤ 2 * count_by is_free l.fn.groups.items + length l.fn.stack.items;
}
