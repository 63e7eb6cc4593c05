use Rattle.std.proofs.Common.{◌∙◌}
use Rattle.sv_effects.specs.Top.{reactive}
use Rattle.sv_effects.proofs.Topping.{names_more}
use Rattle.sv_effects.proofs.top.reactives.Goals as goal

pub loop-stmt-preserved : goal.loop-stmt-preserved
loop-stmt-preserved c = c.loop-stmt.invariant ∙ names_more reactive _ _ c.args.stmts.now c.loop-stmt.stmt-index c.stmt-item.result c.loop-stmt-test.true c.stmt-item.is c.in_ok-add_reactive.ensures
