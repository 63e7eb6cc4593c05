use Rattle.std.proofs.Common.{◌≡◌, ◌++◌, length, option_map}
use Rattle.sv_select.specs.Compound.{marked, parts_of}
use Rattle.sv_select.proofs.compound.parts_of.Given as goal

abbrev pub invariant-loop-mark : goal.invariant-loop-mark
invariant-loop-mark l = parts_of (marked l.fn.marked) ≡ option_map (λ more. l.parts ++ more) (parts_of (marked l.left))

abbrev pub decreases-loop-mark : goal.decreases-loop-mark
decreases-loop-mark l = length l.left
