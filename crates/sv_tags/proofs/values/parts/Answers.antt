use Rattle.std.proofs.Common.{rules, arith}
use Rattle.std.proofs.lemmas.Grind.{common_steps}
use Rattle.sv_expr.proofs.Turns.{one_more, no_more}
use Rattle.sv_expr.specs.Limits.{real}
use Rattle.sv_tags.specs.Values as spec
use Rattle.sv_tags.specs.Values.{parts, parts_from}
use Rattle.sv_tags.proofs.values.parts.Goals as goal

pub loop-turn-init : goal.loop-turn-init
unfolding parts
loop-turn-init c = first_of (search rules, grind (arith, common_steps))

pub returns-then-byte-closing : goal.returns-then-byte-closing
unfolding parts_from
returns-then-byte-closing c =
    let e = one_more (λ n. spec.parts_from real c.args.room c.args.quote n c.loop-turn.found c.loop-turn.source) _ c.loop-turn._turn c.loop-turn-test.true c.loop-turn.invariant in
    first_of (search rules, grind (arith, common_steps))

pub returns-in_err-part : goal.returns-in_err-part
unfolding parts_from
returns-in_err-part c =
    let e = one_more (λ n. spec.parts_from real c.args.room c.args.quote n c.loop-turn.found c.loop-turn.source) _ c.loop-turn._turn c.loop-turn-test.true c.loop-turn.invariant in
    first_of (search rules, grind (arith, common_steps))

pub loop-turn-preserved : goal.loop-turn-preserved
unfolding parts_from
loop-turn-preserved c =
    let e = one_more (λ n. spec.parts_from real c.args.room c.args.quote n c.loop-turn.found c.loop-turn.source) _ c.loop-turn._turn c.loop-turn-test.true c.loop-turn.invariant in
    first_of (search rules, grind (arith, common_steps))

pub returns : goal.returns
unfolding parts_from
returns c =
    let e = no_more (λ n. spec.parts_from real c.args.room c.args.quote n c.loop-turn.found c.loop-turn.source) _ c.loop-turn._turn c.loop-turn-test.false c.loop-turn.invariant in
    first_of (search rules, grind (arith, common_steps))
