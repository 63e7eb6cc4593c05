use Rattle.std.proofs.Common.{◌≡◌, drop}
use Rattle.std.specs.List.{list_any}
use Rattle.sv_parts.specs.Sides.{sides, local_moved}
use Rattle.sv_parts.proofs.here.Here.has_local_moved.Given as goal

abbrev pub invariant-loop-name : goal.invariant-loop-name
invariant-loop-name l = list_any (local_moved (sides l.self)) l.names ≡ list_any (local_moved (sides l.self)) (drop l.name-index l.names)
