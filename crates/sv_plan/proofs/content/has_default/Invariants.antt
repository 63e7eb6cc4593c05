use Rattle.std.proofs.Common.{◌≡◌, drop}
use Rattle.sv_plan.specs.Content.{has_default}
use Rattle.sv_plan.proofs.content.has_default.Given as goal

abbrev pub invariant-loop-frag : goal.invariant-loop-frag
invariant-loop-frag l = has_default l.frags ≡ has_default (drop l.frag-index l.frags)
