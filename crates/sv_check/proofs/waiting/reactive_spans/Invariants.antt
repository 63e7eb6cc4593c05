use Rattle.std.proofs.Common.{◌≡◌, ◌++◌, map, drop}
use Rattle.sv_check.specs.Waiting.{reactives}
use Rattle.sv_check.proofs.waiting.reactive_spans.Given as goal

abbrev pub invariant-loop-stmt : goal.invariant-loop-stmt
invariant-loop-stmt l = map (λ s. s.span) (reactives l.stmts) ≡ l.spans ++ map (λ s. s.span) (reactives (drop l.stmt-index l.stmts))
