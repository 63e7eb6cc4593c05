use Rattle.std.proofs.Common.{◌≡◌, ◌++◌, drop}
use Rattle.sv_compile.specs.Constants.{numbered_from}
use Rattle.sv_compile.proofs.constants.numbered.Given as goal

abbrev pub invariant-loop-n : goal.invariant-loop-n
invariant-loop-n l = numbered_from 0 l.names ≡ l.given ++ numbered_from l.n (drop l.n l.names)
