use Rattle.std.proofs.Common.{◌≡◌, ◌++◌, drop}
use Rattle.sv_compile.specs.TopLevel.{stores_from}
use Rattle.sv_compile.proofs.cells.stores_of.Given as goal

abbrev pub invariant-loop-n : goal.invariant-loop-n
invariant-loop-n l = stores_from l.given 0 l.cells ≡ l.stores ++ stores_from l.given l.n (drop l.n l.cells)
