use Rattle.std.proofs.Common.{◌≤◌, length}
use Rattle.sv_keyed.specs.Keys.{IsDistinct}
use Rattle.sv_keyed.specs.Marks.{left, AreMarked}
use Rattle.sv_keyed.specs.Walk.{Placing}
use Rattle.sv_keyed.proofs.arrange.place.Given as goal

-- the new keys from here on are placed, and all old ones from the end on are marked
abbrev pub invariant-loop-j : goal.invariant-loop-j
invariant-loop-j l = record {
  within_new : l.j ≤ length l.new;
  within_old : l.end ≤ length l.old;
  marked : AreMarked l.gone l.end;
  placing : IsDistinct l.old → Placing l.old l.new l.steps.items (left l.gone l.old) l.j;
}

abbrev pub decreases-loop-j : goal.decreases-loop-j
decreases-loop-j l = l.j
