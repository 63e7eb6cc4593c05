use Rattle.std.proofs.Common.{◌≡◌, ◌+◌, ◌-◌, length, drop}
use Rattle.sv_wire.specs.Stream.{told_at}
use Rattle.sv_wire.specs.Reader.{Grown}
use Rattle.sv_wire.proofs.Steps.{Reading}
use Rattle.sv_wire.proofs.whole.read_items.Given as goal

abbrev pub invariant-items : goal.invariant-items
invariant-items l = record {
  reading : Reading (told_at l.at (drop l.done l.bytes)) l.bytes l.offset l.used l.fn.items.items l.items.items;
  reach : l.offset + l.done ≡ l.at + l.used;
  grown : Grown l.fn.items.items l.items.items;
}

abbrev pub decreases-items : goal.decreases-items
decreases-items l = length l.bytes - l.used
