use Rattle.std.proofs.Common.{rules, arith}
use Rattle.std.proofs.lemmas.Grind.{common_steps}
use Rattle.sv_expr.specs.Limits.{real}
use Rattle.sv_expr.specs.Rules as spec
use Rattle.sv_expr.specs.Rules.{suffixes}
use Rattle.sv_expr.proofs.Turns.{one_more, no_more}
use Rattle.sv_expr.proofs.grammar.Grammar.suffixes.Goals as goal

pub returns-then-not-begins_suffix : goal.returns-then-not-begins_suffix
unfolding suffixes
returns-then-not-begins_suffix g c =
    let e = one_more (λ n. spec.suffixes real c.args.self.now.room (g.B.Enclosed.readers c.args.self.now.room) c.args.from n c.loop-turn.whole c.loop-turn.tokens) _ c.loop-turn._turn c.loop-turn-test.true c.loop-turn.invariant in
    first_of (search rules, grind (arith, common_steps))

pub returns-in_err-whole : goal.returns-in_err-whole
unfolding suffixes
returns-in_err-whole g c =
    let e = one_more (λ n. spec.suffixes real c.args.self.now.room (g.B.Enclosed.readers c.args.self.now.room) c.args.from n c.loop-turn.whole c.loop-turn.tokens) _ c.loop-turn._turn c.loop-turn-test.true c.loop-turn.invariant in
    first_of (search rules, grind (arith, common_steps))

pub loop-turn-preserved : goal.loop-turn-preserved
unfolding suffixes
loop-turn-preserved g c =
    let e = one_more (λ n. spec.suffixes real c.args.self.now.room (g.B.Enclosed.readers c.args.self.now.room) c.args.from n c.loop-turn.whole c.loop-turn.tokens) _ c.loop-turn._turn c.loop-turn-test.true c.loop-turn.invariant in
    first_of (search rules, grind (arith, common_steps))

pub returns-then-begins_suffix : goal.returns-then-begins_suffix
unfolding suffixes
returns-then-begins_suffix g c =
    let e = no_more (λ n. spec.suffixes real c.args.self.now.room (g.B.Enclosed.readers c.args.self.now.room) c.args.from n c.loop-turn.whole c.loop-turn.tokens) _ c.loop-turn._turn c.loop-turn-test.false c.loop-turn.invariant in
    first_of (search rules, grind (arith, common_steps))

pub returns : goal.returns
unfolding suffixes
returns g c =
    let e = no_more (λ n. spec.suffixes real c.args.self.now.room (g.B.Enclosed.readers c.args.self.now.room) c.args.from n c.loop-turn.whole c.loop-turn.tokens) _ c.loop-turn._turn c.loop-turn-test.false c.loop-turn.invariant in
    first_of (search rules, grind (arith, common_steps))
