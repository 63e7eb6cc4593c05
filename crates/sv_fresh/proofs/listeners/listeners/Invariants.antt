use Rattle.std.proofs.Common.{◌≡◌, ◌++◌, drop}
use Rattle.sv_fresh.specs.Listeners.{listeners}
use Rattle.sv_fresh.proofs.listeners.listeners.Given as goal

abbrev pub invariant-loop-attr : goal.invariant-loop-attr
invariant-loop-attr l =
    listeners l.here.scene.now.program.now l.here.view.now l.attrs ≡ l.all ++ listeners l.here.scene.now.program.now l.here.view.now (drop l.attr-index l.attrs)
