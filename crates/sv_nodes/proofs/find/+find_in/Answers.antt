use Rattle.std.proofs.Common.{◌∙◌, ap, sym, refl, arith, get_or}
use Rattle.sv_tokens.specs.Token.{first_key, identifies}
use Rattle.sv_nodes.specs.Cells.{nodes_of, cell_of}
use Rattle.sv_nodes.proofs.Finding.{at_entry, found-here, found-below, child-below, child-found, child-passed, rest-none}
use Rattle.sv_nodes.proofs.find.+find_in.Goals as goal

pub returns-then-content_shows_id : goal.returns-then-content_shows_id
returns-then-content_shows_id t c =
    sym (found-here (nodes_of c.args.nodes.now.slots) c.args.next c.args.key (cell_of c.entry_at-entry.result.now) c.args.id.now c.requires.1.1.0
    (at_entry c.args.nodes.now c.args.key _ c.entry_at-entry.ensures) (sym c.content_shows_id.ensures ∙ c.if-content_shows_id.true))

pub loop-child-init : goal.loop-child-init
loop-child-init t c =
    rw c.deref-child-items.ensures.value (found-below (nodes_of c.args.nodes.now.slots) c.args.next c.args.key (cell_of c.entry_at-entry.result.now) c.args.id.now c.requires.1.1.0
    (at_entry c.args.nodes.now c.args.key _ c.entry_at-entry.ensures) (sym c.content_shows_id.ensures ∙ c.if-content_shows_id.false))

pub find_in-requires : goal.find_in-requires
find_in-requires t c =
    let here = at_entry c.args.nodes.now c.args.key _ c.entry_at-entry.ensures in
    let below = child-below c.args.nodes.now c.args.next c.args.key (cell_of c.entry_at-entry.result.now) c.loop-child.child-index _ c.requires.1.1.0 here (rw (← c.deref-child-items.ensures.value) c.loop-child-test.true) (ap (λ z. get_or z c.loop-child.child-index 0) c.deref-child-items.ensures.value) in
    (omega (arith, c.requires.1.0, below.later, below.below), (c.requires.1.1.0, below.live))

pub returns-in-Some : goal.returns-in-Some
returns-in-Some t c =
    sym (child-found (nodes_of c.args.nodes.now.slots) c.deref-child-items.result.now c.loop-child.child-index _ _ c.args.id.now c.loop-child-test.true refl (sym c.in-Some.ensures)) ∙ c.loop-child.invariant

pub loop-child-preserved : goal.loop-child-preserved
loop-child-preserved t c =
    sym (child-passed (nodes_of c.args.nodes.now.slots) c.deref-child-items.result.now c.loop-child.child-index _ c.args.id.now c.loop-child-test.true refl (sym c.in_default.ensures)) ∙ c.loop-child.invariant

pub returns : goal.returns
returns t c =
    sym (ap (first_key (identifies c.args.id.now)) (rest-none (nodes_of c.args.nodes.now.slots) c.deref-child-items.result.now c.loop-child.child-index c.loop-child-test.false)) ∙ c.loop-child.invariant
