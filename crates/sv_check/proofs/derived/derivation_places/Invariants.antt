use Rattle.std.proofs.Common.{◌≡◌, drop}
use Rattle.std.specs.List.{flat_map}
use Rattle.sv_check.specs.Called.{with_places}
use Rattle.sv_check.specs.Derived.{derivation_places, derivations_at}
use Rattle.sv_check.proofs.derived.derivation_places.Given as goal

abbrev pub invariant-loop-stmt : goal.invariant-loop-stmt
invariant-loop-stmt l = derivation_places l.names l.derivers l.stmts ≡ with_places l.places (flat_map (derivations_at l.names l.derivers) (drop l.stmt-index l.stmts))
