use Rattle.std.proofs.Common.{rules, arith}
use Rattle.std.proofs.lemmas.Grind.{common_steps}
use Rattle.sv_expr.proofs.Turns.{one_more, no_more}
use Rattle.sv_tags.specs.Attributes as spec
use Rattle.sv_tags.specs.Attributes.{all_modifiers, modifiers_from}
use Rattle.sv_tags.proofs.modifiers.read.Goals as goal

pub loop-turn-init : goal.loop-turn-init
unfolding all_modifiers
loop-turn-init c = first_of (search rules, grind (arith, common_steps))

pub returns-then-byte-ne124 : goal.returns-then-byte-ne124
unfolding modifiers_from
returns-then-byte-ne124 c =
    let e = one_more (λ n. spec.modifiers_from n c.loop-turn.found c.loop-turn.source) _ c.loop-turn._turn c.loop-turn-test.true c.loop-turn.invariant in
    first_of (search rules, grind (arith, common_steps))

pub returns-in-None : goal.returns-in-None
unfolding modifiers_from
returns-in-None c =
    let e = one_more (λ n. spec.modifiers_from n c.loop-turn.found c.loop-turn.source) _ c.loop-turn._turn c.loop-turn-test.true c.loop-turn.invariant in
    first_of (search rules, grind (arith, common_steps))

pub loop-turn-preserved : goal.loop-turn-preserved
unfolding modifiers_from
loop-turn-preserved c =
    let e = one_more (λ n. spec.modifiers_from n c.loop-turn.found c.loop-turn.source) _ c.loop-turn._turn c.loop-turn-test.true c.loop-turn.invariant in
    first_of (search rules, grind (arith, common_steps))

pub returns : goal.returns
unfolding modifiers_from
returns c =
    let e = no_more (λ n. spec.modifiers_from n c.loop-turn.found c.loop-turn.source) _ c.loop-turn._turn c.loop-turn-test.false c.loop-turn.invariant in
    first_of (search rules, grind (arith, common_steps))
