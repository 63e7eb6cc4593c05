use Rattle.std.proofs.Common.{rules}
use Rattle.std.specs.Prelude.{IsTrue}
use Rattle.sv_nodes.proofs.Attributes.{put-replaced, put-inserted}
use Rattle.sv_nodes.proofs.edit.put_attribute.Goals as goal

pub returns-then-has_slot-clause-ok : goal.returns-then-has_slot-clause-ok
returns-then-has_slot-clause-ok c =
    let items = c.args.attributes.now.items in
    let yes : IsTrue c.has_slot.result = search rules in
    put-replaced items c.args.attribute c.args.attribute c.slots_below-at.result (rw c.deref.ensures.value at c.slots_below-at.ensures.count)
    (rw c.deref-2.ensures.value at (c.has_slot.ensures.inside yes)) (rw c.deref-2.ensures.value at (c.has_slot.ensures.same c.args.attribute yes))

pub returns-clause-ok : goal.returns-clause-ok
returns-clause-ok c =
    let items = c.args.attributes.now.items in
    let no : IsTrue c.has_slot.result → ⊥ = search rules in
    rw c.in_ok-insert.ensures.items (put-inserted items c.args.attribute c.args.attribute c.slots_below-at.result (rw c.deref.ensures.value at c.slots_below-at.ensures.count)
    (λ below same. no (c.has_slot.ensures.no c.args.attribute (rw c.deref-2.ensures.value below) (rw c.deref-2.ensures.value same))))
