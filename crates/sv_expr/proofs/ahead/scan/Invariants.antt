use Rattle.std.proofs.Common.{◌≡◌, ◌-◌}
use Rattle.sv_expr.specs.Ahead.{scan}
use Rattle.sv_expr.proofs.ahead.scan.Given as goal

abbrev pub invariant-loop-turn : goal.invariant-loop-turn
invariant-loop-turn l = scan l.most l.fn.text ≡ scan (l.most - l._turn) l.z
