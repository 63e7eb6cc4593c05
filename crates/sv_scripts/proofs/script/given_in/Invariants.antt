use Rattle.std.proofs.Common.{◌≡◌, map, drop}
use Rattle.sv_meaning.specs.Runs.{prop_given}
use Rattle.sv_scripts.specs.Props.{given_as}
use Rattle.sv_scripts.proofs.script.given_in.Given as goal

abbrev pub invariant-loop-prop : goal.invariant-loop-prop
invariant-loop-prop l = prop_given (map given_as l.props) l.cell ≡ prop_given (map given_as (drop l.prop-index l.props)) l.cell
