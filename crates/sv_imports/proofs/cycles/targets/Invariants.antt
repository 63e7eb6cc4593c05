use Rattle.std.proofs.Common.{◌≡◌, ◌++◌, drop}
use Rattle.std.specs.List.{filter_map}
use Rattle.sv_imports.specs.Imports.{target}
use Rattle.sv_imports.proofs.cycles.targets.Given as goal

abbrev pub invariant-loop-stmt : goal.invariant-loop-stmt
invariant-loop-stmt l = filter_map (target l.files) l.stmt-items ≡ l.targets ++ filter_map (target l.files) (drop l.stmt-index l.stmt-items)
