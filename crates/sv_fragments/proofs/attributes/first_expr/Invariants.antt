use Rattle.std.proofs.Common.{◌≡◌, drop}
use Rattle.sv_fragments.specs.Attributes.{first_expr}
use Rattle.sv_fragments.proofs.attributes.first_expr.Given as goal

abbrev pub invariant-loop-part : goal.invariant-loop-part
invariant-loop-part l = first_expr l.parts ≡ first_expr (drop l.part-index l.parts)
