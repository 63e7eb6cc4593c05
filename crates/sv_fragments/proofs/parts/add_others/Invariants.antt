use Rattle.std.proofs.Common.{◌≡◌, drop, not}
use Rattle.std.specs.Prelude.{filter}
use Rattle.sv_names.specs.Distinct.{has, with_names}
use Rattle.sv_fragments.proofs.parts.add_others.Given as goal

abbrev pub invariant-loop-name : goal.invariant-loop-name
invariant-loop-name l = (l.known ≡ l.all) × (with_names l.fn.all (filter (λ name. not (has name l.row)) l.names) ≡ with_names l.all (filter (λ name. not (has name l.row)) (drop l.name-index l.names)))
