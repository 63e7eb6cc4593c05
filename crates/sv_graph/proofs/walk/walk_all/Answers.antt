use Rattle.std.proofs.Common.{get_or}
use Rattle.sv_graph.proofs.Turning.{in_at}
use Rattle.sv_graph.proofs.Walking.{order_within}
use Rattle.sv_graph.proofs.Underway.{walked-none, walked-more}
use Rattle.sv_graph.proofs.walk.walk_all.Goals as goal

pub loop-start-init : goal.loop-start-init
loop-start-init c = walked-none c.args.links.now c.in_ok-vec.field-0 c.new.result (c.in_ok-vec.ensures.items_if_clones_equal (λ y h. h)) c.new.ensures.items

pub loop-start-preserved : goal.loop-start-preserved
loop-start-preserved c = walked-more _ _ _ _ c.loop-start.invariant c.in_ok-walk_from.ensures.walk c.in_ok-walk_from.ensures.visited c.in_ok-walk_from.ensures.earlier c.in_ok-walk_from.ensures.known

pub returns-clause-within : goal.returns-clause-within
returns-clause-within c = λ k d lt. order_within c.args.links.now c.loop-start.walk (get_or c.loop-start.walk.order.items k d) c.loop-start.invariant.marked (in_at c.loop-start.walk.order.items k d lt)
