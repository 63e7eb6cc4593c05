use Rattle.std.proofs.Common.{◌≡◌, ◌++◌, drop}
use Rattle.sv_attributes.specs.Values.{written}
use Rattle.sv_attributes.proofs.values.written.Given as goal

abbrev pub invariant-loop-part : goal.invariant-loop-part
invariant-loop-part l = written l.parts ≡ l.texts ++ written (drop l.part-index l.parts)
