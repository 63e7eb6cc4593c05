use Rattle.std.proofs.Common.{◌≡◌, take, ◌++◌}
use Rattle.sv_view.proofs.view.append.Given as goal

abbrev pub invariant-loop-level : goal.invariant-loop-level
invariant-loop-level l = l.levels.items ≡ l.initial.levels.items ++ take l.level-index l.more
