use Rattle.std.proofs.Common.{◌≡◌, drop}
use Rattle.sv_plan.specs.Blocks.{any_moved, tests}
use Rattle.sv_parts.specs.Sides.{sides}
use Rattle.sv_plan.proofs.blocks.has_any_moved.Given as goal

abbrev pub invariant-loop-arm : goal.invariant-loop-arm
invariant-loop-arm l = any_moved (tests l.arms) (sides l.here) ≡ any_moved (tests (drop l.arm-index l.arms)) (sides l.here)
