use Rattle.std.proofs.Common.{◌≡◌, ◌++◌, map, drop}
use Rattle.sv_compile.specs.Runs.{reactives, reactives_from}
use Rattle.sv_compile.proofs.runs.reactives.Given as goal

abbrev pub invariant-loop-n : goal.invariant-loop-n
invariant-loop-n l = reactives l.stmts ≡ map (λ r. (r.place, r.stmt.now)) l.list.items ++ reactives_from l.n (drop l.n l.stmts)
