use Rattle.std.proofs.Common.{◌≡◌, rules, arith}
use Rattle.std.proofs.lemmas.Grind.{common_steps}
use Rattle.sv_expr.specs.Limits.{real}
use Rattle.sv_expr.specs.Rules as spec
use Rattle.sv_expr.specs.Rules.{binary, links}
use Rattle.sv_expr.proofs.Turns.{one_more, no_more, deeper}
use Rattle.sv_expr.proofs.grammar.Grammar.+binary.Goals as goal

pub links-returns-in_default : goal.links-returns-in_default
unfolding links
links-returns-in_default g t c =
    let e = one_more (λ n. spec.links (spec.binary real c.args.self.now.room (g.B.Enclosed.readers c.args.self.now.room) c.args.below) c.args.group n c.loop-turn.left c.loop-turn.found c.loop-turn.tokens) _ c.loop-turn._turn c.loop-turn-test.true c.loop-turn.invariant in
    first_of (search rules, grind (arith, common_steps))

pub links-returns-in_err-right : goal.links-returns-in_err-right
unfolding links
links-returns-in_err-right g t c =
    let e = one_more (λ n. spec.links (spec.binary real c.args.self.now.room (g.B.Enclosed.readers c.args.self.now.room) c.args.below) c.args.group n c.loop-turn.left c.loop-turn.found c.loop-turn.tokens) _ c.loop-turn._turn c.loop-turn-test.true c.loop-turn.invariant in
    first_of (search rules, grind (arith, common_steps))

pub links-returns-then-not-fits : goal.links-returns-then-not-fits
unfolding links
links-returns-then-not-fits g t c =
    let e = one_more (λ n. spec.links (spec.binary real c.args.self.now.room (g.B.Enclosed.readers c.args.self.now.room) c.args.below) c.args.group n c.loop-turn.left c.loop-turn.found c.loop-turn.tokens) _ c.loop-turn._turn c.loop-turn-test.true c.loop-turn.invariant in
    first_of (search rules, grind (arith, common_steps))

pub links-loop-turn-preserved : goal.links-loop-turn-preserved
unfolding links
links-loop-turn-preserved g t c =
    let e = one_more (λ n. spec.links (spec.binary real c.args.self.now.room (g.B.Enclosed.readers c.args.self.now.room) c.args.below) c.args.group n c.loop-turn.left c.loop-turn.found c.loop-turn.tokens) _ c.loop-turn._turn c.loop-turn-test.true c.loop-turn.invariant in
    first_of (search rules, grind (arith, common_steps))

pub links-returns-then-is_some : goal.links-returns-then-is_some
unfolding links
links-returns-then-is_some g t c =
    let e = no_more (λ n. spec.links (spec.binary real c.args.self.now.room (g.B.Enclosed.readers c.args.self.now.room) c.args.below) c.args.group n c.loop-turn.left c.loop-turn.found c.loop-turn.tokens) _ c.loop-turn._turn c.loop-turn-test.false c.loop-turn.invariant in
    first_of (search rules, grind (arith, common_steps))

pub links-returns : goal.links-returns
unfolding links
links-returns g t c =
    let e = no_more (λ n. spec.links (spec.binary real c.args.self.now.room (g.B.Enclosed.readers c.args.self.now.room) c.args.below) c.args.group n c.loop-turn.left c.loop-turn.found c.loop-turn.tokens) _ c.loop-turn._turn c.loop-turn-test.false c.loop-turn.invariant in
    first_of (search rules, grind (arith, common_steps))

pub binary-returns-then-group-eq0 : goal.binary-returns-then-group-eq0
unfolding binary
binary-returns-then-group-eq0 g t c = let none : c.args.group ≡ 0 = omega arith in rw none c.prefix.ensures

pub binary-returns-in_err-first : goal.binary-returns-in_err-first
unfolding binary
binary-returns-in_err-first g t c = rw (deeper (λ n. spec.binary real c.args.self.now.room (g.B.Enclosed.readers c.args.self.now.room) n c.args.tokens.now) c.args.group (omega arith)) (first_of (search rules, grind (arith, common_steps)))

pub binary-returns : goal.binary-returns
unfolding binary
binary-returns g t c = rw (deeper (λ n. spec.binary real c.args.self.now.room (g.B.Enclosed.readers c.args.self.now.room) n c.args.tokens.now) c.args.group (omega arith)) (first_of (search rules, grind (arith, common_steps)))
