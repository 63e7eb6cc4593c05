use Rattle.std.proofs.Common.{◌≡◌, drop}
use Rattle.sv_flush.specs.Creation.{prop_cell}
use Rattle.sv_flush.proofs.wait.prop_cell.Given as goal

abbrev pub invariant-loop-prop : goal.invariant-loop-prop
invariant-loop-prop l = prop_cell l.props l.name ≡ prop_cell (drop l.prop-index l.props) l.name
