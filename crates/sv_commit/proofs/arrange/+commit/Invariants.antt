use Rattle.std.proofs.Common.{◌≡◌, ◌≤◌, ◌++◌, length, drop}
use Rattle.sv_live.specs.Shown.{name_of, plainly_all, flat_all}
use Rattle.sv_live.specs.Stands.{Becomes}
use Rattle.sv_live.specs.Walk.{Places}
use Rattle.sv_commit.proofs.arrange.+commit.Given as goal

abbrev pub invariant-place_all-loop-i : goal.invariant-place_all-loop-i
invariant-place_all-loop-i l = record {
  becomes : Becomes l.initial.screen l.screen (name_of l.spot.above) l.spot.end (l.initial.walk.rest ++ l.initial.walk.placed) (l.walk.rest ++ l.walk.placed);
  shown : plainly_all l.walk.placed ≡ flat_all (drop l.i l.nodes) ++ plainly_all l.initial.walk.placed;
  keeps : Places l.initial.screen.page.next l.initial.walk l.walk;
  within : l.i ≤ length l.nodes;
}

abbrev pub decreases-place_all-loop-i : goal.decreases-place_all-loop-i
decreases-place_all-loop-i l = l.i
