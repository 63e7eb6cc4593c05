use Rattle.std.proofs.Common.{◌≡◌, take}
use Rattle.sv_fresh.specs.Sources.{plain_props}
use Rattle.sv_fresh.proofs.source.plain_props.Given as goal

abbrev pub invariant-loop-prop : goal.invariant-loop-prop
invariant-loop-prop l = l.all ≡ plain_props (take l.prop-index l.olds)
