use Rattle.std.proofs.Common.{◌≡◌, drop}
use Rattle.sv_derived.specs.Derived.{found}
use Rattle.sv_derived.proofs.graph.find.Given as goal

abbrev pub invariant-loop-entry : goal.invariant-loop-entry
invariant-loop-entry l = found l.entries l.id ≡ found (drop l.entry-index l.entries) l.id
