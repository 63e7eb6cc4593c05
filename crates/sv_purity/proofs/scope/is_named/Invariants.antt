use Rattle.std.proofs.Common.{◌≡◌, map, drop}
use Rattle.std.specs.List.{list_any}
use Rattle.sv_names.specs.Uses.{named}
use Rattle.sv_purity.proofs.scope.is_named.Given as goal

abbrev pub invariant-loop-own : goal.invariant-loop-own
invariant-loop-own g l = list_any (g.S.Sought.is_sought l.sought) (map named l.params) ≡ list_any (g.S.Sought.is_sought l.sought) (map named (drop l.own-index l.params))
