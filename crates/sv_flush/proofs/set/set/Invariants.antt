use Rattle.std.proofs.Common.{◌≡◌, drop}
use Rattle.sv_flush.specs.Setting.{prop_set}
use Rattle.sv_meaning.specs.Runs.{each_in_turn}
use Rattle.sv_flush.proofs.set.set.Given as goal

abbrev pub invariant-loop-prop : goal.invariant-loop-prop
invariant-loop-prop l = each_in_turn (prop_set l.inst.number) l.props l.fn.world ≡ each_in_turn (prop_set l.inst.number) (drop l.prop-index l.props) l.world
