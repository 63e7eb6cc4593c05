use Rattle.std.proofs.Common.{◌≡◌, take, map}
use Rattle.sv_flush.specs.Creation.{passed}
use Rattle.sv_scripts.specs.Props.{given_as}
use Rattle.sv_flush.proofs.machine.Machine.passed.Given as goal

abbrev pub invariant-loop-prop : goal.invariant-loop-prop
invariant-loop-prop l = map given_as l.all.items ≡ passed (take l.prop-index l.props)
