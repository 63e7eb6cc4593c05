use Rattle.std.proofs.Common.{◌≡◌, take}
use Rattle.std.specs.Prelude.{not}
use Rattle.sv_names.specs.Distinct.{has}
use Rattle.sv_order.proofs.Setting.{needed}
use Rattle.sv_order.proofs.links.needs.Given as goal

-- the points of the names so far
abbrev pub invariant-loop-name : goal.invariant-loop-name
invariant-loop-name l = l.needs ≡ needed l.names.keys l.count (λ name. not (has name l.statement.sets)) (take l.name-index l.name-items)
