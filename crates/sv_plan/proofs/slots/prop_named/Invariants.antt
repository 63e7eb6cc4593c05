use Rattle.std.proofs.Common.{◌≡◌, drop}
use Rattle.sv_plan.specs.Slots.{prop_named}
use Rattle.sv_plan.proofs.slots.prop_named.Given as goal

abbrev pub invariant-loop-prop : goal.invariant-loop-prop
invariant-loop-prop l = prop_named l.name l.props ≡ prop_named l.name (drop l.prop-index l.props)
