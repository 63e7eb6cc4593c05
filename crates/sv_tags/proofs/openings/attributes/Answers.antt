use Rattle.std.proofs.Common.{rules, arith}
use Rattle.std.proofs.lemmas.Grind.{common_steps}
use Rattle.sv_expr.proofs.Turns.{one_more, no_more}
use Rattle.sv_expr.specs.Limits.{real}
use Rattle.sv_tags.specs.Openings as spec
use Rattle.sv_tags.specs.Openings.{attributes, attributes_from}
use Rattle.sv_tags.proofs.openings.attributes.Goals as goal

pub loop-turn-init : goal.loop-turn-init
unfolding attributes
loop-turn-init c = first_of (search rules, grind (arith, common_steps))

pub returns-then-len-ne0 : goal.returns-then-len-ne0
unfolding attributes_from
returns-then-len-ne0 c =
    let e = one_more (λ n. spec.attributes_from real c.args.room c.args.tag c.args.owned c.args.from n c.loop-turn.found c.loop-turn.source) _ c.loop-turn._turn c.loop-turn-test.true c.loop-turn.invariant in
    first_of (search rules, grind (arith, common_steps))

pub returns-then-left-eq0 : goal.returns-then-left-eq0
unfolding attributes_from
returns-then-left-eq0 c =
    let e = one_more (λ n. spec.attributes_from real c.args.room c.args.tag c.args.owned c.args.from n c.loop-turn.found c.loop-turn.source) _ c.loop-turn._turn c.loop-turn-test.true c.loop-turn.invariant in
    first_of (search rules, grind (arith, common_steps))

pub returns-then-not-has_blanks : goal.returns-then-not-has_blanks
unfolding attributes_from
returns-then-not-has_blanks c =
    let e = one_more (λ n. spec.attributes_from real c.args.room c.args.tag c.args.owned c.args.from n c.loop-turn.found c.loop-turn.source) _ c.loop-turn._turn c.loop-turn-test.true c.loop-turn.invariant in
    first_of (search rules, grind (arith, common_steps))

pub returns-in_err-more : goal.returns-in_err-more
unfolding attributes_from
returns-in_err-more c =
    let e = one_more (λ n. spec.attributes_from real c.args.room c.args.tag c.args.owned c.args.from n c.loop-turn.found c.loop-turn.source) _ c.loop-turn._turn c.loop-turn-test.true c.loop-turn.invariant in
    first_of (search rules, grind (arith, common_steps))

pub loop-turn-preserved : goal.loop-turn-preserved
unfolding attributes_from
loop-turn-preserved c =
    let e = one_more (λ n. spec.attributes_from real c.args.room c.args.tag c.args.owned c.args.from n c.loop-turn.found c.loop-turn.source) _ c.loop-turn._turn c.loop-turn-test.true c.loop-turn.invariant in
    first_of (search rules, grind (arith, common_steps))

pub returns : goal.returns
unfolding attributes_from
returns c =
    let e = no_more (λ n. spec.attributes_from real c.args.room c.args.tag c.args.owned c.args.from n c.loop-turn.found c.loop-turn.source) _ c.loop-turn._turn c.loop-turn-test.false c.loop-turn.invariant in
    first_of (search rules, grind (arith, common_steps))
