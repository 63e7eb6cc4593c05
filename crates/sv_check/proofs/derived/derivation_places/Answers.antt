use Rattle.std.proofs.Common.{◌∙◌}
use Rattle.sv_check.specs.Derived.{derivations_at}
use Rattle.sv_check.proofs.Once.{places_more}
use Rattle.sv_check.proofs.derived.derivation_places.Goals as goal

pub loop-stmt-preserved : goal.loop-stmt-preserved
loop-stmt-preserved c =
    c.loop-stmt.invariant
    ∙ places_more c.args.stmts.now c.loop-stmt.stmt-index c.stmt-item.result c.loop-stmt-test.true c.stmt-item.is (derivations_at c.args.names.now c.args.derivers.now) c.loop-stmt.places c.add_stmt.new.places c.in_ok-add_stmt.ensures
