use Rattle.std.proofs.Common.{◌≡◌, ◌++◌, drop}
use Rattle.std.specs.List.{flat_map}
use Rattle.sv_effects.specs.Functions.{stmt_functions}
use Rattle.sv_effects.proofs.functions.add_file.Given as goal

abbrev pub invariant-loop-stmt : goal.invariant-loop-stmt
invariant-loop-stmt l = l.fn.functions ++ flat_map (stmt_functions l.names l.file) l.stmt-items ≡ l.functions ++ flat_map (stmt_functions l.names l.file) (drop l.stmt-index l.stmt-items)
