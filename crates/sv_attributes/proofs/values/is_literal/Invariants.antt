use Rattle.std.proofs.Common.{◌≡◌, drop}
use Rattle.sv_attributes.specs.Values.{is_literal}
use Rattle.sv_attributes.proofs.values.is_literal.Given as goal

abbrev pub invariant-loop-part : goal.invariant-loop-part
invariant-loop-part l = is_literal l.parts ≡ is_literal (drop l.part-index l.parts)
