use Rattle.std.proofs.Common.{◌≡◌, drop}
use Rattle.sv_plan.specs.Blocks.{choose, tests}
use Rattle.sv_parts.specs.Sides.{sides}
use Rattle.sv_plan.proofs.blocks.choose_arm.Given as goal

abbrev pub invariant-loop-index : goal.invariant-loop-index
invariant-loop-index l = choose l.here.program.now (tests l.arms) 0 (sides l.here) l.fn.state ≡ choose l.here.program.now (tests (drop l.index l.arms)) l.index (sides l.here) l.state
