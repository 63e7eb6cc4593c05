use Rattle.std.proofs.Common.{◌≡◌, ◌++◌, drop}
use Rattle.sv_fresh.specs.Slots.{props}
use Rattle.sv_fresh.proofs.slots.props.Given as goal

abbrev pub invariant-loop-attr : goal.invariant-loop-attr
invariant-loop-attr l =
    props l.here.scene.now.program.now l.here.view.now l.attrs ≡ l.all ++ props l.here.scene.now.program.now l.here.view.now (drop l.attr-index l.attrs)
