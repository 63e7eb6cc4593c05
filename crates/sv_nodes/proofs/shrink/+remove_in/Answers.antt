use Rattle.std.proofs.Common.{arith}
use Rattle.slab.specs.Slab.{get}
use Rattle.sv_nodes.specs.Cells.{nodes_of, cell_of}
use Rattle.sv_nodes.proofs.Slabs.{stands-live, there, at_node}
use Rattle.sv_nodes.proofs.Shrinking.{shrunk}
use Rattle.sv_nodes.proofs.Removing.{loses-more, shorter, next-child, lost, bare-there, removed}
use Rattle.sv_nodes.proofs.shrink.+remove_in.Goals as goal

pub last_child-requires : goal.last_child-requires
last_child-requires t c = stands-live c.loop-child.nodes c.args.next c.args.key c.loop-child.invariant.sound c.loop-child.invariant.stays

pub remove_in-requires : goal.remove_in-requires
remove_in-requires t c =
    let live = stands-live c.loop-child.nodes c.args.next c.args.key c.loop-child.invariant.sound c.loop-child.invariant.stays in
    let e = there (get c.loop-child.nodes c.args.key) live c.in-Some.ensures in
    let n = next-child (nodes_of c.args.nodes.now.slots) (nodes_of c.loop-child.nodes.slots) c.args.next c.args.key c.in-Some.child (cell_of e.0) e.2.0 c.loop-child.invariant
    (at_node c.loop-child.nodes c.args.key e.0 e.1) e.2.1 in
    (omega (arith, c.decreases, n.later, n.below), (c.loop-child.invariant.sound, n.stands, n.not_page))

pub loop-child-smaller : goal.loop-child-smaller
loop-child-smaller t c =
    let live = stands-live c.loop-child.nodes c.args.next c.args.key c.loop-child.invariant.sound c.loop-child.invariant.stays in
    let e = there (get c.loop-child.nodes c.args.key) live c.in-Some.ensures in
    shorter (nodes_of c.loop-child.nodes.slots) (nodes_of c.remove_in.new.nodes.slots) c.args.next c.args.key c.in-Some.child (cell_of e.0) e.2.0 c.loop-child.invariant.sound
    (at_node c.loop-child.nodes c.args.key e.0 e.1) e.2.1 c.remove_in.ensures.tokens.only

pub loop-child-preserved : goal.loop-child-preserved
loop-child-preserved t c =
    let live = stands-live c.loop-child.nodes c.args.next c.args.key c.loop-child.invariant.sound c.loop-child.invariant.stays in
    let e = there (get c.loop-child.nodes c.args.key) live c.in-Some.ensures in
    loses-more (nodes_of c.args.nodes.now.slots) (nodes_of c.loop-child.nodes.slots) (nodes_of c.remove_in.new.nodes.slots) c.args.next c.args.key c.in-Some.child (cell_of e.0) e.2.0 c.loop-child.invariant
    (at_node c.loop-child.nodes c.args.key e.0 e.1) e.2.1 c.remove_in.ensures.sound c.remove_in.ensures.tokens.only c.remove_in.ensures.kept

pub drop_bare-requires-clause-bare : goal.drop_bare-requires-clause-bare
drop_bare-requires-clause-bare t c =
    let live = stands-live c.loop-child.nodes c.args.next c.args.key c.loop-child.invariant.sound c.loop-child.invariant.stays in
    let e = there (get c.loop-child.nodes c.args.key) live c.in_default.ensures in
    bare-there c.loop-child.nodes c.args.key e.0 e.1 e.2

pub returns-clause-sound : goal.returns-clause-sound
returns-clause-sound t c =
    (shrunk (nodes_of c.loop-child.nodes.slots) (nodes_of c.drop_bare.new.nodes.slots) c.args.next c.args.key c.loop-child.invariant.sound c.requires.2 c.drop_bare.ensures).sound

pub returns-clause-tokens : goal.returns-clause-tokens
returns-clause-tokens t c =
    removed (nodes_of c.args.nodes.now.slots) (nodes_of c.drop_bare.new.nodes.slots) c.args.next c.args.key c.requires.0 c.requires.1
    (lost (nodes_of c.args.nodes.now.slots) (nodes_of c.loop-child.nodes.slots) (nodes_of c.drop_bare.new.nodes.slots) c.args.next c.args.key c.loop-child.invariant
    (shrunk (nodes_of c.loop-child.nodes.slots) (nodes_of c.drop_bare.new.nodes.slots) c.args.next c.args.key c.loop-child.invariant.sound c.requires.2 c.drop_bare.ensures).tokens)
