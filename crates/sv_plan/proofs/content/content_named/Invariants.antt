use Rattle.std.proofs.Common.{◌≡◌, drop}
use Rattle.sv_plan.specs.Content.{content_named}
use Rattle.sv_plan.proofs.content.content_named.Given as goal

abbrev pub invariant-loop-frag : goal.invariant-loop-frag
invariant-loop-frag l = content_named l.name l.frags ≡ content_named l.name (drop l.frag-index l.frags)
