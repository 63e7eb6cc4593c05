use Rattle.std.proofs.Common.{◌≡◌, ◌++◌, drop}
use Rattle.std.specs.String.{string_bytes}
use Rattle.sv_ops.proofs.Between.{onward}
use Rattle.sv_attributes.proofs.values.joined.Given as goal

abbrev pub invariant-loop-number : goal.invariant-loop-number
invariant-loop-number l = string_bytes l.whole ++ onward l.separator l.number (drop l.number l.texts) ≡ onward l.separator 0 l.texts
