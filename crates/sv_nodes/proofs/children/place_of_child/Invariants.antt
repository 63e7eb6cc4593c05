use Rattle.std.proofs.Common.{◌≤◌, length, take}
use Rattle.sv_nodes.specs.Sound.{IsAmong}
use Rattle.sv_nodes.proofs.children.place_of_child.Given as goal

abbrev pub invariant-loop-at : goal.invariant-loop-at
invariant-loop-at l = (l.at ≤ length l.children) × IsAmong l.child (take l.at l.children)

abbrev pub decreases-loop-at : goal.decreases-loop-at
decreases-loop-at l = l.at
