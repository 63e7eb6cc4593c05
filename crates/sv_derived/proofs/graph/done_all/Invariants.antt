use Rattle.std.proofs.Common.{◌≡◌, take, drop, ◌++◌}
use Rattle.sv_derived.specs.Derived.{done}
use Rattle.sv_derived.proofs.graph.done_all.Given as goal

abbrev pub invariant-loop-index : goal.invariant-loop-index
invariant-loop-index l = l.entries ≡ done (take l.index l.initial.entries) l.id ++ drop l.index l.initial.entries
