use Rattle.std.proofs.Common.{◌≡◌, drop}
use Rattle.sv_fresh.specs.Blocks.{choose}
use Rattle.sv_plan.specs.Blocks.{tests}
use Rattle.sv_fresh.proofs.blocks.choose.Given as goal

abbrev pub invariant-loop-index : goal.invariant-loop-index
invariant-loop-index l =
    choose l.here.scene.now.program.now l.here.view.now (tests l.arms) 0 ≡ choose l.here.scene.now.program.now l.here.view.now (tests (drop l.index l.arms)) l.index
