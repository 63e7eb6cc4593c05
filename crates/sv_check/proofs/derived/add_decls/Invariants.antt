use Rattle.std.proofs.Common.{◌≡◌, drop}
use Rattle.sv_check.specs.Called.{with_places}
use Rattle.sv_check.specs.Derived.{derivations_in}
use Rattle.sv_check.proofs.derived.add_decls.Given as goal

abbrev pub invariant-loop-decl : goal.invariant-loop-decl
invariant-loop-decl l = with_places l.fn.places (derivations_in l.names l.derivers l.decls) ≡ with_places l.places (derivations_in l.names l.derivers (drop l.decl-index l.decls))
