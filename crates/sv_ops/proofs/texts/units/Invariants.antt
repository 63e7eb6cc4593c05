use Rattle.std.proofs.Common.{◌≡◌, ◌+◌, ◌*◌, ◌≤◌, drop}
use Rattle.sv_ops.specs.Texts.{units}
use Rattle.sv_ops.proofs.texts.units.Given as goal

abbrev pub invariant-loop-byte : goal.invariant-loop-byte
invariant-loop-byte l = record {
  same : units l.text ≡ l.units + units (drop l.byte-index l.text);
  few : l.units ≤ 2 * l.byte-index;
}
