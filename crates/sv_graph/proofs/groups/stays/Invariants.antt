use Rattle.std.proofs.Common.{◌≡◌, false, take}
use Rattle.std.specs.Prelude.{◌==◌}
use Rattle.std.specs.List.{list_any}
use Rattle.sv_graph.specs.Groups.{group_at}
use Rattle.sv_graph.proofs.groups.stays.Given as goal

abbrev pub invariant-loop-other : goal.invariant-loop-other
invariant-loop-other l = list_any (λ q. group_at l.groups q == group_at l.groups l.point) (take l.other-index l.other-items) ≡ false
