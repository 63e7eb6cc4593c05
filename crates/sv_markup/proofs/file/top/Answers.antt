use Rattle.std.proofs.Common.{rules, arith}
use Rattle.std.proofs.lemmas.Grind.{common_steps}
use Rattle.sv_expr.specs.Limits.{real}
use Rattle.sv_expr.proofs.Turns.{one_more, no_more}
use Rattle.sv_markup.specs.Files as spec
use Rattle.sv_markup.specs.Files.{top, parts_from}
use Rattle.sv_markup.proofs.file.top.Goals as goal

pub loop-turn-init : goal.loop-turn-init
unfolding top
loop-turn-init c = first_of (search rules, grind (arith, common_steps))

pub returns-then-left-eq0 : goal.returns-then-left-eq0
unfolding parts_from
returns-then-left-eq0 c =
    let e = one_more (λ n. spec.parts_from real n c.loop-turn.found c.loop-turn.source) _ c.loop-turn._turn c.loop-turn-test.true c.loop-turn.invariant in
    first_of (search rules, grind (arith, common_steps))

pub returns-in_err-part : goal.returns-in_err-part
unfolding parts_from
returns-in_err-part c =
    let e = one_more (λ n. spec.parts_from real n c.loop-turn.found c.loop-turn.source) _ c.loop-turn._turn c.loop-turn-test.true c.loop-turn.invariant in
    first_of (search rules, grind (arith, common_steps))

pub loop-turn-preserved : goal.loop-turn-preserved
unfolding parts_from
loop-turn-preserved c =
    let e = one_more (λ n. spec.parts_from real n c.loop-turn.found c.loop-turn.source) _ c.loop-turn._turn c.loop-turn-test.true c.loop-turn.invariant in
    first_of (search rules, grind (arith, common_steps))

pub returns-then-left-eq0-2 : goal.returns-then-left-eq0-2
unfolding parts_from
returns-then-left-eq0-2 c =
    let e = no_more (λ n. spec.parts_from real n c.loop-turn.found c.loop-turn.source) _ c.loop-turn._turn c.loop-turn-test.false c.loop-turn.invariant in
    first_of (search rules, grind (arith, common_steps))

pub returns-else-left-eq0-2 : goal.returns-else-left-eq0-2
unfolding parts_from
returns-else-left-eq0-2 c =
    let e = no_more (λ n. spec.parts_from real n c.loop-turn.found c.loop-turn.source) _ c.loop-turn._turn c.loop-turn-test.false c.loop-turn.invariant in
    first_of (search rules, grind (arith, common_steps))
