use Rattle.std.proofs.Common.{map, drop}
use Rattle.sv_scopes.specs.Parts.{in_turn}
use Rattle.sv_scopes.specs.Files.{top_stmt}
use Rattle.sv_scopes.proofs.Leaving.{Leaves}
use Rattle.sv_scopes.proofs.file.find_script.Given as goal

abbrev pub invariant-loop-stmt : goal.invariant-loop-stmt
invariant-loop-stmt l = Leaves l.fn.found l.found (in_turn (map top_stmt l.stmt-items)) (in_turn (map top_stmt (drop l.stmt-index l.stmt-items)))
