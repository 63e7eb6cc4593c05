use Rattle.std.proofs.Common.{◌≡◌, take}
use Rattle.sv_fresh.specs.States.{states}
use Rattle.sv_fresh.proofs.states.states.Given as goal

abbrev pub invariant-loop-attr : goal.invariant-loop-attr
invariant-loop-attr l = l.all ≡ states l.here.scene.now.program.now l.here.view.now (take l.attr-index l.attrs)
