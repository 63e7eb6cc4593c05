use Rattle.std.proofs.Common.{◌≡◌, ◌++◌, length}
use Rattle.sv_live.specs.Shown.{name_of}
use Rattle.sv_live.specs.Stands.{Becomes}
use Rattle.sv_commit.proofs.arrange.clear.Given as goal

abbrev pub invariant-loop-live : goal.invariant-loop-live
invariant-loop-live l = record {
  becomes : Becomes l.initial.screen l.screen (name_of l.fn.spot.above) l.fn.spot.end (l.initial.walk.rest ++ l.initial.walk.placed) (l.walk.rest ++ l.walk.placed);
  placed : l.walk.placed ≡ l.initial.walk.placed;
}

abbrev pub decreases-loop-live : goal.decreases-loop-live
decreases-loop-live l = length l.walk.rest
