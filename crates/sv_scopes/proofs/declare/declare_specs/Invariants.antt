use Rattle.std.proofs.Common.{map, drop}
use Rattle.sv_scopes.specs.declared.scope.Binding.TheVariants.{Import}
use Rattle.sv_scopes.specs.Parts.{declaring}
use Rattle.sv_scopes.specs.Script.{declared}
use Rattle.sv_scopes.proofs.Leaving.{Leaves}
use Rattle.sv_scopes.proofs.declare.declare_specs.Given as goal

abbrev pub invariant-loop-spec : goal.invariant-loop-spec
invariant-loop-spec l = Leaves l.fn.found l.found (declaring (map (λ spec. declared Import spec.local) l.specs)) (declaring (map (λ spec. declared Import spec.local) (drop l.spec-index l.specs)))
