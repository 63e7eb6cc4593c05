use Rattle.std.proofs.Common.{◌≡◌, length, take}
use Rattle.sv_keyed.specs.Marks.{left}
use Rattle.sv_keyed.specs.Walk.{Dropping}
use Rattle.sv_keyed.proofs.arrange.drop_gone.Given as goal

-- the keys so far are dropped or left
abbrev pub invariant-loop-i : goal.invariant-loop-i
invariant-loop-i l = record {
  marks : length l.gone.items ≡ l.i;
  dropped : Dropping l.old l.new l.steps.items (left l.gone.items (take l.i l.old)) l.i;
}
