use Rattle.std.proofs.Common.{◌++◌}
use Rattle.sv_flush.specs.Creation.{after_entries}
use Rattle.sv_flush.proofs.Entries.{Entering}
use Rattle.sv_flush.proofs.wait.push_after.Given as goal

abbrev pub invariant-loop-at : goal.invariant-loop-at
invariant-loop-at l = Entering l.inst.number l.count (record l.fn.rounds { render = l.fn.rounds.render ++ after_entries l.inst.number 0 l.count }) l.at l.rounds
