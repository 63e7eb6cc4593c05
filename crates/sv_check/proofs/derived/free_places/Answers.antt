use Rattle.std.proofs.Common.{◌≡◌, IfOk, subst}
use Rattle.sv_check.specs.declared.derived.Derivers.{Derivers}
use Rattle.sv_check.specs.Derived.{derivation_places}
use Rattle.sv_check.proofs.derived.free_places.Goals as goal

pub returns : goal.returns
returns c =
    subst (λ (d : Derivers). IfOk c.derivation_places.result (λ places. places ≡ derivation_places c.args.names.now d c.args.stmts.now)) c.in_ok-derivers.ensures c.derivation_places.ensures
