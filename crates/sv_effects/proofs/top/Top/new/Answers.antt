use Rattle.sv_effects.proofs.Topping.{declared_together, top_is}
use Rattle.sv_effects.proofs.top.Top.new.Goals as goal

pub returns : goal.returns
returns c =
    top_is c.args.stmts.now _ (cc (declared_together c.args.stmts.now, c.in_ok-declare_stmts.ensures, c.declared.view_is, c.new-declared.ensures)) c.in_ok-variables.ensures c.in_ok-reactives.ensures
