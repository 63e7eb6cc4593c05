use Rattle.std.proofs.Common.{◌≡◌, ◌++◌, drop}
use Rattle.std.specs.List.{flat_map}
use Rattle.sv_imports.specs.Unknown.{unknown_of}
use Rattle.sv_imports.proofs.unknown.find_in_file.Given as goal

abbrev pub invariant-loop-stmt : goal.invariant-loop-stmt
invariant-loop-stmt l = flat_map (unknown_of l.names l.files l.given) l.stmt-items ≡ l.places ++ flat_map (unknown_of l.names l.files l.given) (drop l.stmt-index l.stmt-items)
