use Rattle.sv_instance.specs.Cells.{touched_cell}
use Rattle.sv_instance.proofs.Slotting.{now-set, seen-set}
use Rattle.sv_instance.proofs.cells.touch_in.Goals as goal

pub returns-then-at-slots-clause-now : goal.returns-then-at-slots-clause-now
returns-then-at-slots-clause-now c = now-set touched_cell c.args.slots.now c.args.at c.index-slots-at.result c.touch_slot.new.slot c.if-at-slots.true c.touch_slot.ensures.now

pub returns-then-at-slots-clause-seen : goal.returns-then-at-slots-clause-seen
returns-then-at-slots-clause-seen c = seen-set c.args.has_shown c.args.slots.now c.args.at c.index-slots-at.result c.touch_slot.new.slot c.if-at-slots.true c.touch_slot.ensures.seen
