use Rattle.slab.specs.Slab.{get}
use Rattle.sv_nodes.proofs.Slabs.{link-live, drops-removed, there, some_and}
use Rattle.sv_nodes.proofs.shrink.drop_bare.Goals as goal

pub drop_child-requires : goal.drop_child-requires
drop_child-requires c = link-live c.args.nodes.now c.args.next c.args.key c.entry_at.result.now c.requires.sound c.entry_at.ensures c.requires.page

pub returns : goal.returns
returns c =
    let live = some_and _ _ (link-live c.args.nodes.now c.args.next c.args.key c.entry_at.result.now c.requires.sound c.entry_at.ensures c.requires.page) in
    let above = there (get c.args.nodes.now c.entry_at.result.now.parent) live c.drop_child.ensures in
    drops-removed c.args.nodes.now c.drop_child.new.nodes c.try_remove.new.self c.args.key c.entry_at.result.now above.0 above.2.0 c.entry_at.ensures (rw c.entry_at.ensures at c.requires.bare)
    above.1 above.2.1 above.2.2 above.2.3 c.try_remove.ensures.updates
