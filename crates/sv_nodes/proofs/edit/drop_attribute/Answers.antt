use Rattle.std.proofs.Common.{◌<◌, ◌≤◌, length, arith}
use Rattle.sv_nodes.proofs.Attributes.{remove-dropped, none-dropped}
use Rattle.sv_nodes.proofs.edit.drop_attribute.Goals as goal

pub returns-then-at-len : goal.returns-then-at-len
returns-then-at-len c =
    let inside : c.place_of_slot-at.result < length c.args.attributes.now.items = omega (arith, c.if-at-len.true, c.len.ensures) in
    rw c.remove.ensures.items (remove-dropped c.args.slot c.args.attributes.now.items c.place_of_slot-at.result (rw c.deref.ensures.value at c.place_of_slot-at.ensures.count) inside)

pub returns-else-at-len : goal.returns-else-at-len
returns-else-at-len c =
    let past : length c.args.attributes.now.items ≤ c.place_of_slot-at.result = omega (arith, c.if-at-len.false, c.len.ensures) in
    none-dropped c.args.slot c.args.attributes.now.items c.place_of_slot-at.result (rw c.deref.ensures.value at c.place_of_slot-at.ensures.count) past
