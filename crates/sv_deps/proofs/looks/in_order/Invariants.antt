use Rattle.std.proofs.Common.{◌≡◌, ◌++◌, ◌-◌}
use Rattle.sv_deps.specs.Looks.{among_from}
use Rattle.sv_deps.proofs.looks.in_order.Given as goal

abbrev pub invariant-loop-n : goal.invariant-loop-n
invariant-loop-n l = among_from 0 l.count l.numbers ≡ l.list ++ among_from l.n (l.count - l.n) l.numbers
