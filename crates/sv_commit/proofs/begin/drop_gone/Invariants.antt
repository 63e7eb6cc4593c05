use Rattle.std.proofs.Common.{◌≡◌, ◌++◌, ℕ, length, true}
use Rattle.std.specs.BTreeSet.{contains}
use Rattle.std.specs.Ordering.{nat_cmp}
use Rattle.sv_live.specs.Known.{known}
use Rattle.sv_live.specs.Shown.{name_of}
use Rattle.sv_live.specs.Stands.{Becomes}
use Rattle.sv_commit.proofs.begin.drop_gone.Given as goal

abbrev pub invariant-loop-live : goal.invariant-loop-live
invariant-loop-live l = record {
  becomes : Becomes l.initial.screen l.screen (name_of l.fn.spot.above) l.fn.spot.end (l.initial.walk.left ++ l.initial.walk.rest) (l.walk.left ++ l.walk.rest);
  known : (n : ℕ) → contains nat_cmp l.asked n ≡ true → known n (l.walk.left ++ l.walk.rest) ≡ known n (l.initial.walk.left ++ l.initial.walk.rest);
  placed : l.walk.placed ≡ l.initial.walk.placed;
}

abbrev pub decreases-loop-live : goal.decreases-loop-live
decreases-loop-live l = length l.walk.left
