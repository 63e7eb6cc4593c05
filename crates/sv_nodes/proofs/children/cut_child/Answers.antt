use Rattle.sv_nodes.proofs.Siblings.{cuts-at}
use Rattle.sv_nodes.proofs.children.cut_child.Goals as goal

pub returns : goal.returns
returns c = rw c.remove.ensures.items (cuts-at c.args.child c.args.children.now.items c.place_of_child-at.result (rw c.deref.ensures.value at c.place_of_child-at.ensures.back))
