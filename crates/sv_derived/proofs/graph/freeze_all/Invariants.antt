use Rattle.std.proofs.Common.{◌≡◌, take, drop, ◌++◌}
use Rattle.sv_derived.specs.Derived.{frozen}
use Rattle.sv_derived.proofs.graph.freeze_all.Given as goal

abbrev pub invariant-loop-index : goal.invariant-loop-index
invariant-loop-index l = l.entries ≡ frozen (take l.index l.initial.entries) l.owner.number ++ drop l.index l.initial.entries
