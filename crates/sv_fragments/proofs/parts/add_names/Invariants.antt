use Rattle.std.proofs.Common.{◌≡◌, drop}
use Rattle.sv_names.specs.Distinct.{with_names}
use Rattle.sv_fragments.proofs.parts.add_names.Given as goal

abbrev pub invariant-loop-name : goal.invariant-loop-name
invariant-loop-name l = (l.known ≡ l.all) × (with_names l.fn.all l.names ≡ with_names l.all (drop l.name-index l.names))
