use Rattle.std.proofs.Common.{◌≡◌, [], drop}
use Rattle.sv_names.specs.Distinct.{with_names}
use Rattle.sv_effects.specs.Top.{reactives}
use Rattle.sv_effects.proofs.top.reactives.Given as goal

abbrev pub invariant-loop-stmt : goal.invariant-loop-stmt
invariant-loop-stmt l = with_names [] (reactives l.stmts) ≡ with_names l.reactives (reactives (drop l.stmt-index l.stmts))
