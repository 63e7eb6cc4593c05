use Rattle.std.proofs.Common.{◌≡◌, ◌++◌, drop}
use Rattle.sv_white.specs.White as spec
use Rattle.sv_white.proofs.join.joined.Given as goal

abbrev pub invariant-loop-i : goal.invariant-loop-i
invariant-loop-i g l = spec.joined l.pieces ≡ l.joined.items ++ spec.joined_behind l.behind_text (drop l.i l.pieces)
