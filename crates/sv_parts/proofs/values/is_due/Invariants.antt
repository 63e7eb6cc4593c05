use Rattle.std.proofs.Common.{◌≡◌, drop}
use Rattle.sv_parts.specs.Sides.{sides}
use Rattle.sv_parts.specs.Values.{is_due, due_from}
use Rattle.sv_parts.proofs.values.is_due.Given as goal

abbrev pub invariant-loop-index : goal.invariant-loop-index
invariant-loop-index l = is_due (sides l.here) l.olds l.parts ≡ due_from (sides l.here) l.olds l.index (drop l.index l.parts)
