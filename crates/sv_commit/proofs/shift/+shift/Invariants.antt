use Rattle.std.proofs.Common.{take}
use Rattle.sv_live.specs.Shown.{name_of}
use Rattle.sv_live.specs.Stands.{Goes}
use Rattle.sv_commit.proofs.shift.+shift.Given as goal

abbrev pub invariant-move_all-loop-live : goal.invariant-move_all-loop-live
invariant-move_all-loop-live l = Goes l.initial.screen l.screen (name_of l.spot.above) l.spot.end (take l.live-index l.lives)
