use Rattle.std.proofs.Common.{◌≡◌, drop}
use Rattle.sv_names.specs.Distinct.{firsts, with_names}
use Rattle.sv_resolve.specs.Mistakes.{captured}
use Rattle.sv_resolve.proofs.table.captured_names.Given as goal

abbrev pub invariant-loop-found : goal.invariant-loop-found
invariant-loop-found l = firsts (captured l.uses) ≡ with_names l.names (captured (drop l.found-index l.uses))
