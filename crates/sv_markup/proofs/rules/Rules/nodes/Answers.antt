use Rattle.std.proofs.Common.{rules, arith}
use Rattle.std.proofs.lemmas.Grind.{common_steps}
use Rattle.sv_expr.specs.Limits.{real}
use Rattle.sv_expr.proofs.Turns.{one_more, no_more}
use Rattle.sv_markup.specs.Rules as spec
use Rattle.sv_markup.specs.Rules.{nodes, nodes_from, inside}
use Rattle.sv_markup.proofs.rules.Rules.nodes.Goals as goal

pub loop-turn-init : goal.loop-turn-init
unfolding nodes
loop-turn-init g c = first_of (search rules, grind (arith, common_steps))

pub returns-then-is_end : goal.returns-then-is_end
unfolding nodes_from
returns-then-is_end g c =
    let e = one_more (λ n. spec.nodes_from real c.args.self.now.room (inside real c.args.self.now.room) c.args.owned n c.loop-turn.found c.loop-turn.source) _ c.loop-turn._turn c.loop-turn-test.true c.loop-turn.invariant in
    first_of (search rules, grind (arith, common_steps))

pub returns-in_err-node : goal.returns-in_err-node
unfolding nodes_from
returns-in_err-node g c =
    let e = one_more (λ n. spec.nodes_from real c.args.self.now.room (inside real c.args.self.now.room) c.args.owned n c.loop-turn.found c.loop-turn.source) _ c.loop-turn._turn c.loop-turn-test.true c.loop-turn.invariant in
    first_of (search rules, grind (arith, common_steps))

pub loop-turn-preserved : goal.loop-turn-preserved
unfolding nodes_from
loop-turn-preserved g c =
    let e = one_more (λ n. spec.nodes_from real c.args.self.now.room (inside real c.args.self.now.room) c.args.owned n c.loop-turn.found c.loop-turn.source) _ c.loop-turn._turn c.loop-turn-test.true c.loop-turn.invariant in
    first_of (search rules, grind (arith, common_steps))

pub returns-then-is_end-2 : goal.returns-then-is_end-2
unfolding nodes_from
returns-then-is_end-2 g c =
    let e = no_more (λ n. spec.nodes_from real c.args.self.now.room (inside real c.args.self.now.room) c.args.owned n c.loop-turn.found c.loop-turn.source) _ c.loop-turn._turn c.loop-turn-test.false c.loop-turn.invariant in
    first_of (search rules, grind (arith, common_steps))

pub returns-else-is_end-2 : goal.returns-else-is_end-2
unfolding nodes_from
returns-else-is_end-2 g c =
    let e = no_more (λ n. spec.nodes_from real c.args.self.now.room (inside real c.args.self.now.room) c.args.owned n c.loop-turn.found c.loop-turn.source) _ c.loop-turn._turn c.loop-turn-test.false c.loop-turn.invariant in
    first_of (search rules, grind (arith, common_steps))
