use Rattle.std.proofs.Common.{◌≡◌, ◌++◌, drop}
use Rattle.sv_check.specs.Waiting.{reads}
use Rattle.sv_check.proofs.waiting.reads_beside.Given as goal

abbrev pub invariant-loop-stmt : goal.invariant-loop-stmt
invariant-loop-stmt l = reads l.cells l.stmts ≡ l.reads.items ++ reads l.cells (drop l.stmt-index l.stmts)
