use Rattle.std.proofs.Common.{◌≡◌, take}
use Rattle.std.specs.List.{filter_map}
use Rattle.sv_load.specs.Imports.{file_of}
use Rattle.sv_load.proofs.imports.named.Given as goal

abbrev pub invariant-loop-stmt : goal.invariant-loop-stmt
invariant-loop-stmt l = l.names ≡ filter_map file_of (take l.stmt-index l.stmts)
