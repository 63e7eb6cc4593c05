use Rattle.std.proofs.Common.{◌<◌, ℕ, List, take, get_or, sym, subst, refl}
use Rattle.std.proofs.lemmas.List.{take_more, take_all}
use Rattle.sv_graph.specs.Reached.{Reaches}
use Rattle.sv_graph.proofs.Reaching.{reaches-none, reaches-more}
use Rattle.sv_graph.proofs.reach.meet_all.Goals as goal

pub loop-point-init : goal.loop-point-init
loop-point-init c = reaches-none c.args.met.now.items c.args.stack.now.items

pub meet-requires : goal.meet-requires
meet-requires c =
    subst (λ (n : ℕ). get_or c.args.points.now c.loop-point.point-index 0 < n) (sym c.loop-point.invariant.size) (c.requires c.loop-point.point-index 0 c.loop-point-test.true)

pub loop-point-preserved : goal.loop-point-preserved
loop-point-preserved c =
    let within = subst (λ (n : ℕ). get_or c.args.points.now c.loop-point.point-index 0 < n) (sym c.loop-point.invariant.size) (c.requires c.loop-point.point-index 0 c.loop-point-test.true) in
    let more = reaches-more (take c.loop-point.point-index c.args.points.now) (get_or c.args.points.now c.loop-point.point-index 0) c.args.met.now.items c.loop-point.met.items c.meet.new.met.items c.args.stack.now.items
    c.loop-point.stack.items c.meet.new.stack.items _ within c.loop-point.invariant refl c.in_ok-meet.ensures in
    subst (λ (z : List ℕ). Reaches z c.args.met.now.items c.args.stack.now.items c.meet.new.met.items c.meet.new.stack.items) (sym (take_more c.args.points.now c.loop-point.point-index 0 c.loop-point-test.true)) more

pub returns : goal.returns
returns c =
    subst (λ (z : List ℕ). Reaches z c.args.met.now.items c.args.stack.now.items c.loop-point.met.items c.loop-point.stack.items) (take_all c.loop-point.point-index c.args.points.now c.loop-point-test.false) c.loop-point.invariant
