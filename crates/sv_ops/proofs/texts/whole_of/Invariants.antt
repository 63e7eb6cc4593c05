use Rattle.std.proofs.Common.{◌≡◌, ◌++◌, drop}
use Rattle.std.specs.String.{string_bytes}
use Rattle.sv_ops.proofs.Between.{onward}
use Rattle.sv_ops.proofs.texts.whole_of.Given as goal

abbrev pub invariant-loop-n : goal.invariant-loop-n
invariant-loop-n l = string_bytes l.whole ++ onward l.between l.n (drop l.n l.texts) ≡ onward l.between 0 l.texts
