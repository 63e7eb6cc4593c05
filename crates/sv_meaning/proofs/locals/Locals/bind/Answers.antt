use Rattle.std.proofs.Common.{◌∙◌, arith, add-one}
use Rattle.sv_meaning.proofs.Names.{bound_next, bound_pushed}
use Rattle.sv_meaning.proofs.locals.Locals.bind.Goals as goal

pub loop-i-preserved : goal.loop-i-preserved
loop-i-preserved c =
    let next = bound_next (λ x. x.0) c.args.names.now c.args.values.now c.loop-i.i _ (omega (arith, c.loop-i-test.true)) in
    rw add-one (c.loop-i.invariant ∙ bound_pushed c.loop-i.self c.push.new.self _ _ _ _ _ c.in_ok-push.ensures c.in_ok-value_at.ensures next)
