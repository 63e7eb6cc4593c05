use Rattle.std.proofs.Common.{◌≡◌, ◌≤◌, length, drop}
use Rattle.sv_meaning.specs.Env.{shown}
use Rattle.sv_meaning.proofs.locals.Locals.shown.Given as goal

abbrev pub invariant-loop-i : goal.invariant-loop-i
invariant-loop-i l = record {
  within : l.i ≤ length l.locals;
  same : l.all ≡ shown (drop l.i l.locals);
}

abbrev pub decreases-loop-i : goal.decreases-loop-i
decreases-loop-i l = l.i
