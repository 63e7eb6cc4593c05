use Rattle.std.proofs.Common.{◌∙◌, ap, refl, get_or, arith}
use Rattle.sv_nodes.specs.Cells.{nodes_of, cell_of}
use Rattle.sv_nodes.proofs.Finding.{at_entry, child-below}
use Rattle.sv_dom.proofs.Printing.{html-node, printed-first, printed-next, printed-all}
use Rattle.sv_dom.proofs.printed.+print_in.Goals as goal

pub loop-child-init : goal.loop-child-init
loop-child-init t c =
    rw c.deref-child-items.ensures.value (printed-first c.args.out.now.items _ _ _ _ c.in_ok-push_before.ensures
    (html-node c.args.numbers (nodes_of c.args.nodes.now.slots) c.args.next c.args.key (cell_of c.entry_at-entry.result.now) c.requires.sound (at_entry c.args.nodes.now c.args.key _ c.entry_at-entry.ensures)))

pub print_in-requires : goal.print_in-requires
print_in-requires t c =
    let here = at_entry c.args.nodes.now c.args.key _ c.entry_at-entry.ensures in
    let below = child-below c.args.nodes.now c.args.next c.args.key (cell_of c.entry_at-entry.result.now) c.loop-child.child-index _ c.requires.sound here
    (rw (← c.deref-child-items.ensures.value) c.loop-child-test.true) (ap (λ z. get_or z c.loop-child.child-index 0) c.deref-child-items.ensures.value) in
    (omega (arith, c.decreases, below.later, below.below), (c.requires.sound, below.live))

pub loop-child-preserved : goal.loop-child-preserved
loop-child-preserved t c =
    printed-next c.args.numbers (nodes_of c.args.nodes.now.slots) c.deref-child-items.result.now c.loop-child.child-index _ _ _ _ _ c.loop-child-test.true refl c.in_ok-print_in.ensures c.loop-child.invariant

pub returns : goal.returns
returns t c =
    c.in_ok-push_after.ensures ∙ printed-all c.args.numbers (nodes_of c.args.nodes.now.slots) c.deref-child-items.result.now c.loop-child.child-index _ _ _ c.loop-child-test.false c.loop-child.invariant
