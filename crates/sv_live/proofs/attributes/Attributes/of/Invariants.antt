use Rattle.std.proofs.Common.{◌≡◌, drop}
use Rattle.sv_live.specs.Attributes.{pushed_all, by_slot}
use Rattle.sv_live.proofs.attributes.Attributes.of.Given as goal

abbrev pub invariant-loop-attribute : goal.invariant-loop-attribute
invariant-loop-attribute l = pushed_all (drop l.attribute-index l.list) l.all ≡ by_slot l.list
