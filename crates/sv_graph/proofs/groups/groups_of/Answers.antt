use Rattle.sv_graph.proofs.Flooding.{flooded-none}
use Rattle.sv_graph.proofs.groups.groups_of.Goals as goal

pub loop-group-init : goal.loop-group-init
loop-group-init c = flooded-none c.args.links.now c.in_ok-groups.groups.items (c.in_ok-groups.ensures.items_if_clones_equal (λ y h. h))
