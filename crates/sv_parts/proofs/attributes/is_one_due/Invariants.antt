use Rattle.std.proofs.Common.{◌≡◌, drop}
use Rattle.sv_parts.specs.Attributes.{due_among}
use Rattle.sv_parts.specs.Sides.{sides}
use Rattle.sv_parts.proofs.attributes.is_one_due.Given as goal

abbrev pub invariant-loop-index : goal.invariant-loop-index
invariant-loop-index l =
    due_among l.here.program.now (sides l.here) l.own l.olds 0 l.attrs ≡ due_among l.here.program.now (sides l.here) l.own l.olds l.index (drop l.index l.attrs)
