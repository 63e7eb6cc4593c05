use Rattle.std.proofs.Common.{◌≡◌, map, drop}
use Rattle.std.specs.List.{list_any}
use Rattle.sv_purity.specs.Pure.{together, stmt_part}
use Rattle.sv_purity.proofs.scope.is_declared.Given as goal

abbrev pub invariant-loop-stmt : goal.invariant-loop-stmt
invariant-loop-stmt g l = list_any (g.S.Sought.is_sought l.sought) (together (map stmt_part l.stmts)).declares ≡ list_any (g.S.Sought.is_sought l.sought) (together (map stmt_part (drop l.stmt-index l.stmts))).declares
