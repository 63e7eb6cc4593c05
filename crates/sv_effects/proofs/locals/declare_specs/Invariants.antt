use Rattle.std.proofs.Common.{◌≡◌, map, drop}
use Rattle.sv_names.specs.Distinct.{with_names}
use Rattle.sv_names.specs.Uses.{named}
use Rattle.sv_effects.proofs.locals.declare_specs.Given as goal

abbrev pub invariant-loop-spec : goal.invariant-loop-spec
invariant-loop-spec l = with_names l.fn.locals (map (λ s. named s.local) l.specs) ≡ with_names l.locals (map (λ s. named s.local) (drop l.spec-index l.specs))
