use Rattle.std.proofs.Common.{◌≡◌, ◌++◌, drop}
use Rattle.sv_parts.specs.Tags.{props_given}
use Rattle.sv_parts.proofs.tags.give_all.Given as goal

abbrev pub invariant-loop-prop : goal.invariant-loop-prop
invariant-loop-prop l = props_given l.props l.offers ≡ l.all ++ props_given (drop l.prop-index l.props) l.offers
