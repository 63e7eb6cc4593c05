use Rattle.std.proofs.Common.{◌≡◌, ◌+◌, ◌≤◌, min, length, drop}
use Rattle.sv_base.specs.declared.limits.TheConstants.{VALUE_SIZE_LIMIT}
use Rattle.sv_ops.proofs.Between.{onward}
use Rattle.sv_ops.proofs.texts.size_of.Given as goal

abbrev pub invariant-loop-n : goal.invariant-loop-n
invariant-loop-n l = record {
  same : min VALUE_SIZE_LIMIT (l.size + length (onward l.between l.n (drop l.n l.texts))) ≡ min VALUE_SIZE_LIMIT (length (onward l.between 0 l.texts));
  few : l.size ≤ VALUE_SIZE_LIMIT;
}
