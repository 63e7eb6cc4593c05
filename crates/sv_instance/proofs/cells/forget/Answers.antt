use Rattle.std.proofs.Common.{refl, length, ◌<◌, arith}
use Rattle.sv_instance.proofs.Slotting.{forget-now, forget-seen}
use Rattle.sv_instance.specs.Slots.{slots_now}
use Rattle.sv_instance.proofs.cells.forget.Goals as goal

pub loop-slot-preserved : goal.loop-slot-preserved
loop-slot-preserved c =
    let inside : c.loop-slot.slot-index < length c.loop-slot.slots = omega arith in
    record {
      now = forget-now c.loop-slot.slots c.loop-slot.slot-index _ inside c.slot-item.result (slots_now c.args.slots.now) refl c.loop-slot.invariant.now;
      seen = forget-seen c.loop-slot.slots c.loop-slot.slot-index _ inside refl c.loop-slot.invariant.seen;
    }
