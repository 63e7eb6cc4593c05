use Rattle.std.proofs.Common.{◌≡◌, ◌++◌, drop}
use Rattle.sv_compile.specs.Holders.{variables}
use Rattle.sv_compile.proofs.holders.add_declared.Given as goal

abbrev pub invariant-loop-declared : goal.invariant-loop-declared
invariant-loop-declared l = l.fn.given ++ variables l.names l.tops l.declares ≡ l.given ++ variables l.names l.tops (drop l.declared-index l.declares)
