use Rattle.std.proofs.Common.{◌≡◌, ◌++◌, map, drop}
use Rattle.sv_imports.specs.Imports.{targets}
use Rattle.sv_imports.proofs.cycles.import_links.Given as goal

abbrev pub invariant-loop-source : goal.invariant-loop-source
invariant-loop-source l = map (targets l.files) l.files ≡ l.links.items ++ map (targets l.files) (drop l.source-index l.files)
