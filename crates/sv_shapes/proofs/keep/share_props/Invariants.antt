use Rattle.std.proofs.Common.{◌≡◌, take}
use Rattle.sv_shapes.proofs.keep.share_props.Given as goal

abbrev pub invariant-loop-prop : goal.invariant-loop-prop
invariant-loop-prop l = l.same ≡ take l.prop-index l.props
