use Rattle.std.proofs.Common.{rules, arith}
use Rattle.std.proofs.lemmas.Grind.{common_steps}
use Rattle.sv_expr.specs.Limits.{real}
use Rattle.sv_expr.proofs.Turns.{one_more, no_more}
use Rattle.sv_markup.specs.Rules as spec
use Rattle.sv_markup.specs.Rules.{branches, inside}
use Rattle.sv_markup.proofs.rules.Rules.branches.Goals as goal

pub returns-in_err-branch_of : goal.returns-in_err-branch_of
unfolding branches
returns-in_err-branch_of g c =
    let e = one_more (λ n. spec.branches real c.args.self.now.room (inside real c.args.self.now.room) n c.loop-turn.len c.loop-turn.found c.loop-turn.source) _ c.loop-turn._turn c.loop-turn-test.true c.loop-turn.invariant.same in
    first_of (search rules, grind (arith, common_steps))

pub returns-then-len-eq0 : goal.returns-then-len-eq0
unfolding branches
returns-then-len-eq0 g c =
    let e = one_more (λ n. spec.branches real c.args.self.now.room (inside real c.args.self.now.room) n c.loop-turn.len c.loop-turn.found c.loop-turn.source) _ c.loop-turn._turn c.loop-turn-test.true c.loop-turn.invariant.same in
    first_of (search rules, grind (arith, common_steps))

pub loop-turn-preserved : goal.loop-turn-preserved
unfolding branches
loop-turn-preserved g c =
    let e = one_more (λ n. spec.branches real c.args.self.now.room (inside real c.args.self.now.room) n c.loop-turn.len c.loop-turn.found c.loop-turn.source) _ c.loop-turn._turn c.loop-turn-test.true c.loop-turn.invariant.same in
    record { same = first_of (search rules, grind (arith, common_steps)); front = first_of (search rules, grind (arith, common_steps)) }

pub returns : goal.returns
unfolding branches
returns g c =
    let e = no_more (λ n. spec.branches real c.args.self.now.room (inside real c.args.self.now.room) n c.loop-turn.len c.loop-turn.found c.loop-turn.source) _ c.loop-turn._turn c.loop-turn-test.false c.loop-turn.invariant.same in
    first_of (search rules, grind (arith, common_steps))
