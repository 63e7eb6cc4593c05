use Rattle.std.proofs.Common.{◌≡◌, ◌++◌, drop}
use Rattle.sv_fragments.specs.Attributes.{lets}
use Rattle.sv_fragments.proofs.attributes.lets_of.Given as goal

abbrev pub invariant-loop-of : goal.invariant-loop-of
invariant-loop-of l = lets l.list ≡ l.lets ++ lets (drop l.of-index l.list)
