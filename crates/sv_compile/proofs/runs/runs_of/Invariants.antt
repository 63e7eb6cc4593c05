use Rattle.std.proofs.Common.{◌≡◌, ◌++◌, drop}
use Rattle.sv_compile.specs.Runs.{reactives, runs}
use Rattle.sv_compile.proofs.runs.runs_of.Given as goal

abbrev pub invariant-loop-number : goal.invariant-loop-number
invariant-loop-number l = runs l.cells (reactives l.stmts) l.order ≡ l.runs ++ runs l.cells (reactives l.stmts) (drop l.number-index l.order)
