use Rattle.std.proofs.Common.{◌≡◌, ◌++◌, map, drop}
use Rattle.sv_names.specs.Distinct.{firsts}
use Rattle.sv_imports.specs.Given.{given_by, given_names}
use Rattle.sv_imports.proofs.given.given_names.Given as goal

abbrev pub invariant-loop-source : goal.invariant-loop-source
invariant-loop-source l = given_names l.files ≡ l.given.items ++ map (λ source. firsts (given_by source.tree)) (drop l.source-index l.files)
