use Rattle.std.proofs.Common.{rules, arith}
use Rattle.std.proofs.lemmas.Grind.{common_steps}
use Rattle.sv_expr.specs.Limits.{real}
use Rattle.sv_expr.specs.Rules as spec
use Rattle.sv_expr.specs.Rules.{parts, parts_from}
use Rattle.sv_expr.proofs.Turns.{one_more, no_more}
use Rattle.sv_expr.proofs.grammar.Grammar.parts.Goals as goal

pub loop-turn-init : goal.loop-turn-init
unfolding parts
loop-turn-init g c = first_of (search rules, grind (arith, common_steps))

pub returns-in_err-run : goal.returns-in_err-run
unfolding parts_from
returns-in_err-run g c =
    let e = one_more (λ n. spec.parts_from real c.args.self.now.room (g.B.Enclosed.readers c.args.self.now.room) n c.loop-turn.found c.loop-turn.tokens) _ c.loop-turn._turn c.loop-turn-test.true c.loop-turn.invariant in
    first_of (search rules, grind (arith, common_steps))

pub returns-then-not-is_hole : goal.returns-then-not-is_hole
unfolding parts_from
returns-then-not-is_hole g c =
    let e = one_more (λ n. spec.parts_from real c.args.self.now.room (g.B.Enclosed.readers c.args.self.now.room) n c.loop-turn.found c.loop-turn.tokens) _ c.loop-turn._turn c.loop-turn-test.true c.loop-turn.invariant in
    first_of (search rules, grind (arith, common_steps))

pub returns-in_err-enclosed : goal.returns-in_err-enclosed
unfolding parts_from
returns-in_err-enclosed g c =
    let e = one_more (λ n. spec.parts_from real c.args.self.now.room (g.B.Enclosed.readers c.args.self.now.room) n c.loop-turn.found c.loop-turn.tokens) _ c.loop-turn._turn c.loop-turn-test.true c.loop-turn.invariant in
    first_of (search rules, grind (arith, common_steps))

pub returns-in_err-expect : goal.returns-in_err-expect
unfolding parts_from
returns-in_err-expect g c =
    let e = one_more (λ n. spec.parts_from real c.args.self.now.room (g.B.Enclosed.readers c.args.self.now.room) n c.loop-turn.found c.loop-turn.tokens) _ c.loop-turn._turn c.loop-turn-test.true c.loop-turn.invariant in
    first_of (search rules, grind (arith, common_steps))

pub loop-turn-preserved : goal.loop-turn-preserved
unfolding parts_from
loop-turn-preserved g c =
    let e = one_more (λ n. spec.parts_from real c.args.self.now.room (g.B.Enclosed.readers c.args.self.now.room) n c.loop-turn.found c.loop-turn.tokens) _ c.loop-turn._turn c.loop-turn-test.true c.loop-turn.invariant in
    first_of (search rules, grind (arith, common_steps))

pub returns : goal.returns
unfolding parts_from
returns g c =
    let e = no_more (λ n. spec.parts_from real c.args.self.now.room (g.B.Enclosed.readers c.args.self.now.room) n c.loop-turn.found c.loop-turn.tokens) _ c.loop-turn._turn c.loop-turn-test.false c.loop-turn.invariant in
    first_of (search rules, grind (arith, common_steps))
