use Rattle.std.proofs.Common.{◌≡◌, ◌≤◌, take, min}
use Rattle.sv_lex.specs.Digits as spec
use Rattle.sv_lex.proofs.digits.number.Given as goal

abbrev pub invariant-loop-b : goal.invariant-loop-b
invariant-loop-b l = (l.number ≡ min (spec.number l.base (take l.b-index l.digits)) l.limit) × (l.number ≤ l.limit)
