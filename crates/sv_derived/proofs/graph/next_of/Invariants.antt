use Rattle.std.proofs.Common.{◌≡◌, drop}
use Rattle.sv_derived.specs.Derived.{next}
use Rattle.sv_derived.proofs.graph.next_of.Given as goal

abbrev pub invariant-loop-entry : goal.invariant-loop-entry
invariant-loop-entry l = next l.entries ≡ next (drop l.entry-index l.entries)
