use Rattle.std.proofs.Common.{◌≤◌}
use Rattle.sv_keyed.specs.Marks.{AreMarked}
use Rattle.sv_keyed.proofs.arrange.end_of_left.Given as goal

-- all from here on are marked
abbrev pub invariant-loop-behind : goal.invariant-loop-behind
invariant-loop-behind l = record { within : l.behind ≤ l.end; marked : AreMarked l.gone l.behind }

abbrev pub decreases-loop-behind : goal.decreases-loop-behind
decreases-loop-behind l = l.behind
