use Rattle.std.proofs.Common.{rules, arith}
use Rattle.std.proofs.lemmas.Grind.{common_steps}
use Rattle.sv_script.specs.Lists.{separated, separated_from}
use Rattle.sv_script.proofs.Turns.{one_more, no_more}
use Rattle.sv_script.proofs.lists.separated.Goals as goal

pub loop-turn-init : goal.loop-turn-init
unfolding separated
loop-turn-init g c = λ reader reads. first_of (search rules, grind (arith, common_steps))

pub returns-in_err-item : goal.returns-in_err-item
unfolding separated_from
returns-in_err-item g c = λ reader reads.
    let e = one_more (λ n. separated_from reader n c.loop-turn.found c.loop-turn.tokens) _ c.loop-turn._turn c.loop-turn-test.true (c.loop-turn.invariant reader reads) in
    let read = reads _ _ _ c.item.ensures in
    first_of (search rules, grind (arith, common_steps))

pub returns-then-not-eat : goal.returns-then-not-eat
unfolding separated_from
returns-then-not-eat g c = λ reader reads.
    let e = one_more (λ n. separated_from reader n c.loop-turn.found c.loop-turn.tokens) _ c.loop-turn._turn c.loop-turn-test.true (c.loop-turn.invariant reader reads) in
    let read = reads _ _ _ c.item.ensures in
    first_of (search rules, grind (arith, common_steps))

pub loop-turn-preserved : goal.loop-turn-preserved
unfolding separated_from
loop-turn-preserved g c = λ reader reads.
    let e = one_more (λ n. separated_from reader n c.loop-turn.found c.loop-turn.tokens) _ c.loop-turn._turn c.loop-turn-test.true (c.loop-turn.invariant reader reads) in
    let read = reads _ _ _ c.item.ensures in
    first_of (search rules, grind (arith, common_steps))

pub returns : goal.returns
unfolding separated_from
returns g c = λ reader reads.
    let e = no_more (λ n. separated_from reader n c.loop-turn.found c.loop-turn.tokens) _ c.loop-turn._turn c.loop-turn-test.false (c.loop-turn.invariant reader reads) in
    first_of (search rules, grind (arith, common_steps))
