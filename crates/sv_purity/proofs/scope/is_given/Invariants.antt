use Rattle.std.proofs.Common.{◌≡◌, map, drop}
use Rattle.std.specs.List.{list_any}
use Rattle.sv_names.specs.Uses.{named}
use Rattle.sv_purity.proofs.scope.is_given.Given as goal

abbrev pub invariant-loop-spec : goal.invariant-loop-spec
invariant-loop-spec g l = list_any (g.S.Sought.is_sought l.sought) (map (λ spec. named spec.local) l.specs) ≡ list_any (g.S.Sought.is_sought l.sought) (map (λ spec. named spec.local) (drop l.spec-index l.specs))
