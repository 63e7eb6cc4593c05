use Rattle.std.proofs.Common.{◌<◌, ◌≤◌, ap, arith, length}
use Rattle.slab.specs.Slab.{get}
use Rattle.sv_nodes.specs.Cells.{cell_of, nodes_of}
use Rattle.sv_nodes.proofs.Slabs.{there, at_node}
use Rattle.sv_nodes.proofs.Numbered.{room-first, entry-children, first-children, child-is, child-turn, part-start, part-next, part-end}
use Rattle.sv_nodes.proofs.number.+number_in.Goals as goal

pub give_number-number-requires : goal.give_number-number-requires
give_number-number-requires t c = room-first c.args.nodes.now c.args.next c.args.key c.args.number c.requires.sound c.requires.live c.requires.room

pub loop-place-init : goal.loop-place-init
loop-place-init t c =
    let e = there (get c.args.nodes.now c.args.key) c.requires.live c.give_number-number.ensures.next in
    part-start (nodes_of c.args.nodes.now.slots) (nodes_of c.give_number-number.new.nodes.slots) c.args.next c.args.key c.args.number c.give_number-number.result (cell_of e.0) c.requires.sound
    (at_node c.args.nodes.now c.args.key e.0 e.1) c.give_number-number.ensures.given e.2

pub index-child-requires : goal.index-child-requires
index-child-requires t c =
    let p = c.loop-place.invariant in
    let first = first-children _ _ c.give_number-number.new.nodes c.args.key c.args.number c.loop-place.number c.loop-place.place c.entry_at.result.now c.give_number-number.ensures.given c.entry_at.ensures p in
    let now = entry-children c.loop-place.nodes c.args.key c.args.number p.cell c.entry_at-in-loop-place.result.now c.entry_at-in-loop-place.ensures p.own in
    omega (arith, c.len-count.ensures, ap length first, ap length now, c.loop-place-test.true)

pub number_in-number-requires : goal.number_in-number-requires
number_in-number-requires t c =
    let p = c.loop-place.invariant in
    let first = first-children _ _ c.give_number-number.new.nodes c.args.key c.args.number c.loop-place.number c.loop-place.place c.entry_at.result.now c.give_number-number.ensures.given c.entry_at.ensures p in
    let now = entry-children c.loop-place.nodes c.args.key c.args.number p.cell c.entry_at-in-loop-place.result.now c.entry_at-in-loop-place.ensures p.own in
    let inside : c.loop-place.place < length p.cell.children = omega (arith, c.len-count.ensures, ap length first, c.loop-place-test.true) in
    let turn = child-turn (nodes_of c.args.nodes.now.slots) c.loop-place.nodes c.args.next c.args.key c.args.number c.loop-place.number c.loop-place.place c.index-child.result.now c.requires.sound c.requires.room p inside
    (child-is _ p.cell.children c.loop-place.place c.index-child.result.now now inside c.index-child.ensures) in
    (omega (arith, c.decreases, turn.later, turn.below), (turn.sound, (turn.live, turn.room)))

pub loop-place-preserved : goal.loop-place-preserved
loop-place-preserved t c =
    let p = c.loop-place.invariant in
    let first = first-children _ _ c.give_number-number.new.nodes c.args.key c.args.number c.loop-place.number c.loop-place.place c.entry_at.result.now c.give_number-number.ensures.given c.entry_at.ensures p in
    let now = entry-children c.loop-place.nodes c.args.key c.args.number p.cell c.entry_at-in-loop-place.result.now c.entry_at-in-loop-place.ensures p.own in
    let inside : c.loop-place.place < length p.cell.children = omega (arith, c.len-count.ensures, ap length first, c.loop-place-test.true) in
    part-next (nodes_of c.args.nodes.now.slots) (nodes_of c.loop-place.nodes.slots) (nodes_of c.number_in-number.new.nodes.slots) c.args.next c.args.key c.args.number c.loop-place.number c.number_in-number.result
    c.loop-place.place c.index-child.result.now c.requires.sound p inside (child-is _ p.cell.children c.loop-place.place c.index-child.result.now now inside c.index-child.ensures) c.number_in-number.ensures

pub returns : goal.returns
returns t c =
    let p = c.loop-place.invariant in
    let first = first-children _ _ c.give_number-number.new.nodes c.args.key c.args.number c.loop-place.number c.loop-place.place c.entry_at.result.now c.give_number-number.ensures.given c.entry_at.ensures p in
    let past : length p.cell.children ≤ c.loop-place.place = omega (arith, c.len-count.ensures, ap length first, c.loop-place-test.false) in
    part-end (nodes_of c.args.nodes.now.slots) (nodes_of c.loop-place.nodes.slots) c.args.next c.args.key c.args.number c.loop-place.number c.loop-place.place c.requires.sound p past
