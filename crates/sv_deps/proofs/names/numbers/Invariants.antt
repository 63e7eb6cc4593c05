use Rattle.std.proofs.Common.{◌≡◌, ◌++◌, drop}
use Rattle.sv_deps.specs.Reading.{numbers, numbers_from}
use Rattle.sv_deps.proofs.names.numbers.Given as goal

abbrev pub invariant-loop-n : goal.invariant-loop-n
invariant-loop-n l = numbers l.cells l.names ≡ l.numbers ++ numbers_from l.n (drop l.n l.cells) l.names
