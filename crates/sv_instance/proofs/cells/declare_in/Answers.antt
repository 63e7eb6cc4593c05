use Rattle.std.proofs.Common.{None}
use Rattle.sv_value.specs.View.{view_of}
use Rattle.sv_instance.specs.Cells.{declared_cell}
use Rattle.sv_instance.proofs.Slotting.{now-set}
use Rattle.sv_instance.proofs.cells.declare_in.Goals as goal

pub returns-then-at-slots : goal.returns-then-at-slots
returns-then-at-slots c = now-set (λ cell. declared_cell None cell (view_of c.args.value)) c.args.slots.now c.args.at c.index-slots-at.result c.declare_slot.new.slot c.if-at-slots.true c.declare_slot.ensures
