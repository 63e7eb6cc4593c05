use Rattle.std.proofs.Common.{◌≡◌, take, drop, ◌++◌}
use Rattle.sv_derived.specs.Derived.{marked}
use Rattle.sv_derived.proofs.graph.mark_all.Given as goal

abbrev pub invariant-loop-index : goal.invariant-loop-index
invariant-loop-index l = l.entries ≡ marked (take l.index l.initial.entries) l.id ++ drop l.index l.initial.entries
