use Rattle.std.proofs.Common.{rules, arith}
use Rattle.std.proofs.lemmas.Grind.{common_steps}
use Rattle.sv_expr.specs.Ahead as spec
use Rattle.sv_expr.specs.Ahead.{scan}
use Rattle.sv_expr.proofs.Turns.{one_more, no_more}
use Rattle.sv_expr.proofs.ahead.scan.Goals as goal

pub returns-then-not-leads : goal.returns-then-not-leads
unfolding scan
returns-then-not-leads c =
    let e = one_more (λ n. spec.scan n c.loop-turn.z.now) _ c.loop-turn._turn c.loop-turn-test.true c.loop-turn.invariant in
    first_of (search rules, grind (arith, common_steps))

pub returns-then-not-leads-2 : goal.returns-then-not-leads-2
unfolding scan
returns-then-not-leads-2 c =
    let e = one_more (λ n. spec.scan n c.loop-turn.z.now) _ c.loop-turn._turn c.loop-turn-test.true c.loop-turn.invariant in
    first_of (search rules, grind (arith, common_steps))

pub loop-turn-preserved : goal.loop-turn-preserved
unfolding scan
loop-turn-preserved c =
    let e = one_more (λ n. spec.scan n c.loop-turn.z.now) _ c.loop-turn._turn c.loop-turn-test.true c.loop-turn.invariant in
    first_of (search rules, grind (arith, common_steps))

pub returns : goal.returns
unfolding scan
returns c =
    let e = no_more (λ n. spec.scan n c.loop-turn.z.now) _ c.loop-turn._turn c.loop-turn-test.false c.loop-turn.invariant in
    first_of (search rules, grind (arith, common_steps))
