use Rattle.std.proofs.Common.{◌≡◌, ◌++◌, map, drop}
use Rattle.sv_imports.specs.Unknown.{unknown_in}
use Rattle.sv_imports.proofs.unknown.find_in_files.Given as goal

abbrev pub invariant-loop-source : goal.invariant-loop-source
invariant-loop-source l = map (unknown_in l.names l.files l.given) l.files ≡ l.places ++ map (unknown_in l.names l.files l.given) (drop l.source-index l.files)
