use Rattle.std.proofs.Common.{◌≡◌, drop}
use Rattle.sv_fragments.specs.Attributes.{slot_name}
use Rattle.sv_fragments.proofs.attributes.slot_name.Given as goal

abbrev pub invariant-loop-of : goal.invariant-loop-of
invariant-loop-of l = slot_name l.list ≡ slot_name (drop l.of-index l.list)
