use Rattle.sv_nodes.proofs.Siblings.{grows-at}
use Rattle.sv_nodes.proofs.children.insert_child.Goals as goal

pub returns-clause-ok : goal.returns-clause-ok
returns-clause-ok c = rw c.in_ok-insert.ensures.items (grows-at c.args.child c.args.children.now.items c.args.at c.requires)
