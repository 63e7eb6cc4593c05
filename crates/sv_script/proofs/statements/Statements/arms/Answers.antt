use Rattle.std.proofs.Common.{rules, arith}
use Rattle.std.proofs.lemmas.Grind.{common_steps}
use Rattle.sv_expr.specs.Limits.{real}
use Rattle.sv_script.specs.Rules as spec
use Rattle.sv_script.specs.Rules.{arms}
use Rattle.sv_script.specs.Script.{bodies}
use Rattle.sv_script.proofs.Turns.{one_more, no_more}
use Rattle.sv_script.proofs.statements.Statements.arms.Goals as goal

pub returns-in_err-arm_of : goal.returns-in_err-arm_of
unfolding arms
returns-in_err-arm_of g c =
    let e = one_more (λ n. spec.arms real c.args.self.now.exprs.room (bodies real c.args.self.now.exprs.room) c.args.place n c.loop-turn.found c.loop-turn.tokens) _ c.loop-turn._turn c.loop-turn-test.true c.loop-turn.invariant in
    first_of (search rules, grind (arith, common_steps))

pub returns-then-not-begins_arm : goal.returns-then-not-begins_arm
unfolding arms
returns-then-not-begins_arm g c =
    let e = one_more (λ n. spec.arms real c.args.self.now.exprs.room (bodies real c.args.self.now.exprs.room) c.args.place n c.loop-turn.found c.loop-turn.tokens) _ c.loop-turn._turn c.loop-turn-test.true c.loop-turn.invariant in
    first_of (search rules, grind (arith, common_steps))

pub loop-turn-preserved : goal.loop-turn-preserved
unfolding arms
loop-turn-preserved g c =
    let e = one_more (λ n. spec.arms real c.args.self.now.exprs.room (bodies real c.args.self.now.exprs.room) c.args.place n c.loop-turn.found c.loop-turn.tokens) _ c.loop-turn._turn c.loop-turn-test.true c.loop-turn.invariant in
    first_of (search rules, grind (arith, common_steps))

pub returns : goal.returns
unfolding arms
returns g c =
    let e = no_more (λ n. spec.arms real c.args.self.now.exprs.room (bodies real c.args.self.now.exprs.room) c.args.place n c.loop-turn.found c.loop-turn.tokens) _ c.loop-turn._turn c.loop-turn-test.false c.loop-turn.invariant in
    first_of (search rules, grind (arith, common_steps))
