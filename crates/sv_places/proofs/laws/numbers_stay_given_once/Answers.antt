use Rattle.std.proofs.Common.{arith}
use Rattle.sv_places.proofs.Counting.{given-below, given-between}
use Rattle.sv_places.proofs.laws.numbers_stay_given_once.Goals as goal

pub returns : goal.returns
returns c = record { once = λ old new effects from to g o n. omega (arith, g.numbers n, o n, given-below n from, given-below n to, given-between from to n g.next) }
